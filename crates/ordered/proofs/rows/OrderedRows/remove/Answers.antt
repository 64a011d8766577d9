use Rattle.std.proofs.Common.{length, sym, ap, ◌∙◌, arith}
use Rattle.ordered.specs.Ascending.{member}
use Rattle.ordered.specs.Rows.{items}
use Rattle.ordered.proofs.Changes.{struck}
use Rattle.ordered.proofs.Sets.{length_excluding_le, member_excluding}
use Rattle.ordered.proofs.Shift.{same_past}
use Rattle.ordered.proofs.Walks.{excluding_none}
use Rattle.ordered.proofs.rows.OrderedRows.remove.Goals as goal

pub returns-then-not-holds-clause-rows : goal.returns-then-not-holds-clause-rows
returns-then-not-holds-clause-rows g c = sym (excluding_none g.T.TotalOrder.less c.args.x (items c.args.self.now) (sym c.if-not-holds.ensures.answer))

pub returns-clause-set : goal.returns-clause-set
returns-clause-set g c =
    let o = g.met.T.TotalOrder in
    struck g.T.TotalOrder.less o.irreflexive o.transitive o.total c.args.x _ c.args.self.now.ascending _ _ c.if-not-holds.ensures.answer c.remove_old.ensures.rows

pub returns-clause-fewer : goal.returns-clause-fewer
returns-clause-fewer g c = omega (arith, ap length c.remove_old.ensures.rows, length_excluding_le g.T.TotalOrder.less c.args.x (items c.args.self.now))

pub returns-clause-spare : goal.returns-clause-spare
returns-clause-spare g c = λ n f. same_past _ _ _ n f c.remove_old.ensures.spare

pub returns-clause-members : goal.returns-clause-members
returns-clause-members g c =
    let o = g.met.T.TotalOrder in
    let less = g.T.TotalOrder.less in
    λ z. ap (member less z) c.remove_old.ensures.rows ∙ member_excluding less o.irreflexive o.transitive o.total z c.args.x (items c.args.self.now) c.args.self.now.ascending
