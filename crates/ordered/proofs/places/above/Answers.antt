use Rattle.std.proofs.Common.{◌≡◌, ◌∙◌, rules, tests}
use Rattle.std.proofs.lemmas.Iterator.{YieldsList-from_slice}
use Rattle.std.proofs.lemmas.Iterator.Search.{find_from_yields_List}
use Rattle.ordered.specs.Ascending.{following}
use Rattle.ordered.proofs.Sets.{following_least, following_such}
use Rattle.ordered.proofs.places.above.Goals as goal

pub returns : goal.returns
returns g c =
    let o = g.met.T.TotalOrder in
    let less = g.T.TotalOrder.less in
    let x = c.args.x in
    let xs = c.args.rows.now in
    let is : c.copied.result ≡ following less x xs = c.copied.ensures ∙ find_from_yields_List (less x) _ _ c.find.result c.find.ensures.ran (YieldsList-from_slice xs cc) (λ y b q k. search (rules, tests)) in
    record {
      row = is;
      least = λ h. rw is (following_least less o.irreflexive o.transitive o.total x xs h);
      such = λ h. rw is (following_such less o.irreflexive o.transitive o.total x xs h);
    }
