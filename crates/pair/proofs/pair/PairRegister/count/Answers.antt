use Rattle.std.proofs.Common.{sym, ◌∙◌}
use Rattle.pair.proofs.Pairs.{size}
use Rattle.pair.proofs.pair.PairRegister.count.Goals as goal

pub returns : goal.returns
returns g c = let p = c.args.self.now in c.sum_of_counts.ensures ∙ sym (size p.parted (g.met.A.Register.lawful p.first).ascending (g.met.B.Register.lawful p.second).ascending)
