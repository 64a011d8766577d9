use Rattle.std.proofs.Common.{◌≡◌, min, true, ◌||◌, ltb, length, sym, rules}
use Rattle.ordered.specs.Ascending.{holding}
use Rattle.ordered.specs.Rows.{items, capacity}
use Rattle.ordered.proofs.Changes.{entered, entered_fits}
use Rattle.ordered.proofs.Shift.{same_past}
use Rattle.ordered.proofs.Walks.{including_old}
use Rattle.ordered.proofs.rows.OrderedRows.insert_up_to.Goals as goal

pub returns-then-holds-clause-rows : goal.returns-then-holds-clause-rows
returns-then-holds-clause-rows g c = sym (including_old g.T.TotalOrder.less c.args.x (items c.args.self.now) (sym c.if-holds.ensures.answer))

pub returns-clause-set : goal.returns-clause-set
returns-clause-set g c =
    let o = g.met.T.TotalOrder in
    let less = g.T.TotalOrder.less in
    let x = c.args.x in
    let xs = items c.args.self.now in
    let room = min (capacity c.args.self.now) c.args.limit in
    let answer : true ≡ (holding less x xs || ltb (length xs) room) = search rules in
    λ f. entered less o.irreflexive o.transitive o.total x xs c.args.self.now.ascending room f true _ answer c.insert_new.ensures.rows

pub returns-clause-fits : goal.returns-clause-fits
returns-clause-fits g c =
    let less = g.T.TotalOrder.less in
    let xs = items c.args.self.now in
    let room = min (capacity c.args.self.now) c.args.limit in
    let answer : true ≡ (holding less c.args.x xs || ltb (length xs) room) = search rules in
    λ f. entered_fits less c.args.x xs room f true _ answer c.insert_new.ensures.rows

pub returns-clause-spare : goal.returns-clause-spare
returns-clause-spare g c = λ n f. same_past _ _ _ n f c.insert_new.ensures.spare
