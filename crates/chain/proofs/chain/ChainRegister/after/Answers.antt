use Rattle.std.proofs.Common.{sym, ap, ◌∙◌, subst}
use Rattle.ordered.specs.Ascending.{Above, LeastSuch}
use Rattle.duties.specs.Duties.{before}
use Rattle.chain.specs.Spots.{next_above}
use Rattle.chain.specs.Walk.{chained}
use Rattle.chain.proofs.Relinked.{used_inside}
use Rattle.chain.proofs.Seeking.{trail_duties, above_least}
use Rattle.chain.proofs.chain.ChainRegister.after.Goals as goal

pub returns : goal.returns
returns c =
    let k = c.args.self.now.linked in
    let rows = c.args.self.now.rows.now in
    let e = c.args.self.now.ends in
    let from = c.args.from in
    let is = c.first_above.ensures ∙ ap (next_above from) (trail_duties rows e.head e.count (used_inside rows e k)) in
    subst (LeastSuch before (Above before from) (chained rows e)) (sym is) (above_least from (chained rows e) k.lawful.ascending)
