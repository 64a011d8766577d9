use Rattle.std.proofs.Common.{ap, ◌∙◌}
use Rattle.std.proofs.lemmas.Bool.{cond-true}
use Rattle.ordered.specs.Ascending.{member}
use Rattle.ordered.specs.Rows.{items}
use Rattle.ordered.proofs.Sets.{member_including}
use Rattle.ordered.proofs.rows.OrderedRows.insert.Goals as goal

pub returns-clause-members : goal.returns-clause-members
returns-clause-members g c =
    let o = g.met.T.TotalOrder in
    let less = g.T.TotalOrder.less in
    λ t z. ap (member less z) (c.insert_up_to.ensures.rows ∙ cond-true _ _ _ t) ∙ member_including less o.irreflexive o.transitive o.total z c.args.x (items c.args.self.now)
