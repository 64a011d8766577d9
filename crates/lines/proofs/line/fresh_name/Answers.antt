use Rattle.std.proofs.Common.{sym, ap, cond}
use Rattle.std.proofs.Common.{Ok, Err}
use Rattle.names.specs.Names.{name_before, name_of}
use Rattle.ordered.specs.Ascending.{holding}
use Rattle.ordered.specs.Rows.{items}
use Rattle.lines.specs.declared.fault.LineCause.TheVariants as C
use Rattle.lines.proofs.Told.{told_other}
use Rattle.lines.proofs.line.fresh_name.Goals as goal

pub returns-in_default : goal.returns-in_default
returns-in_default c =
    let n = name_of c.args.word.now in
    sym (ap (λ b. cond b (cond (holding name_before n (items c.args.known.now)) (Err C.Repeated) (Ok n)) (Err C.Name)) (told_other c.classify.result c.args.word.now c.in_default.not-Name c.classify.ensures))
