use Rattle.chain.proofs.Clearing.{strung_linked}
use Rattle.chain.proofs.relink.free_all.Goals as goal

pub returns-clause-sound : goal.returns-clause-sound
returns-clause-sound c = strung_linked c.string_up.new.rows c.string_up.ensures.strung
