use Rattle.std.proofs.Common.{◌≡◌, rules}
use Rattle.ordered.specs.Ascending.{leading}
use Rattle.ordered.proofs.Sets.{leading_least, leading_such}
use Rattle.ordered.proofs.places.first.Goals as goal

pub returns-clause-least : goal.returns-clause-least
returns-clause-least g c =
    let o = g.met.T.TotalOrder in
    let is : c.copied.result ≡ leading c.args.rows.now = search rules in
    λ h. rw is (leading_least g.T.TotalOrder.less o.irreflexive o.transitive o.total c.args.rows.now h)

pub returns-clause-such : goal.returns-clause-such
returns-clause-such g c =
    let o = g.met.T.TotalOrder in
    let is : c.copied.result ≡ leading c.args.rows.now = search rules in
    λ h. rw is (leading_such g.T.TotalOrder.less o.irreflexive o.transitive o.total c.args.rows.now h)
