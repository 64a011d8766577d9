use Rattle.registers.proofs.Outcomes.{calls_have_one_outcome_lem}
use Rattle.registers.proofs.stands.calls_have_one_outcome.Goals as goal

pub returns : goal.returns
returns c = calls_have_one_outcome_lem
