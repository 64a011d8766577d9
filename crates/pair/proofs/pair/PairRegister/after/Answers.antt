use Rattle.ordered.specs.Ascending.{Above}
use Rattle.duties.specs.Duties.{before}
use Rattle.pair.proofs.Pairs.{least_of_parts}
use Rattle.pair.proofs.pair.PairRegister.after.Goals as goal

pub returns : goal.returns
returns g c =
    least_of_parts (Above before c.args.from) (g.A.Register.duties c.args.self.now.first) (g.B.Register.duties c.args.self.now.second) c.after.result c.after-2.result c.lesser_of.result c.lesser_of.ensures c.after.ensures c.after-2.ensures
