use Rattle.std.proofs.Common.{◌≡◌, ◌+◌, take, set, ap, ◌∙◌, arith, rules}
use Rattle.std.proofs.lemmas.Grind.{common_steps}
use Rattle.ordered.specs.Ascending.{rising, placed, including}
use Rattle.ordered.proofs.Sets.{rising_including}
use Rattle.ordered.proofs.Shift.{insert_front}
use Rattle.ordered.proofs.places.insert_row.Goals as goal

pub returns : goal.returns
returns g c =
    let o = g.met.T.TotalOrder in
    let less = g.T.TotalOrder.less in
    let s = c.args.rows.now in
    let n = c.args.n in
    let x = c.args.x in
    let p = c.place-at.result in
    let at : p ≡ placed less x (take n s) = search rules in
    let is : take (n + 1) (set c.copy_within.new.self p x) ≡ including less x (take n s) =
    rw c.copy_within.ensures.after (insert_front less x s p n at c.requires.fresh (search rules) c.requires.within) in
    record {
      front = is;
      rest = grind (arith, common_steps);
      ascending = λ h. ap (rising less) is ∙ rising_including less o.irreflexive o.transitive o.total x (take n s) h;
    }
