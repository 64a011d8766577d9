use Rattle.std.proofs.Common.{sym}
use Rattle.chain.proofs.Relinked.{length_chained}
use Rattle.chain.proofs.chain.ChainRegister.count.Goals as goal

pub returns : goal.returns
returns c = sym (length_chained c.args.self.now.rows.now c.args.self.now.ends)
