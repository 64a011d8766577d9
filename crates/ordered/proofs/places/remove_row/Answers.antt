use Rattle.std.proofs.Common.{◌≡◌, ◌-◌, take, ap, ◌∙◌, arith, rules}
use Rattle.std.proofs.lemmas.Grind.{common_steps}
use Rattle.ordered.specs.Ascending.{rising, placed, excluding}
use Rattle.ordered.proofs.Sets.{rising_excluding}
use Rattle.ordered.proofs.Shift.{remove_front}
use Rattle.ordered.proofs.places.remove_row.Goals as goal

pub returns : goal.returns
returns g c =
    let o = g.met.T.TotalOrder in
    let less = g.T.TotalOrder.less in
    let s = c.args.rows.now in
    let n = c.args.n in
    let x = c.args.x in
    let p = c.place-at.result in
    let at : p ≡ placed less x (take n s) = search rules in
    let is : take (n - 1) c.copy_within.new.self ≡ excluding less x (take n s) =
    rw c.copy_within.ensures.after (remove_front less x s p n at c.requires.there (search rules) c.requires.within) in
    record {
      front = is;
      rest = grind (arith, common_steps);
      ascending = λ h. ap (rising less) is ∙ rising_excluding less o.irreflexive o.transitive o.total x (take n s) h;
    }
