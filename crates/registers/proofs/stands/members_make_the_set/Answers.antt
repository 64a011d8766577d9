use Rattle.registers.proofs.Outcomes.{members_make_the_set_lem}
use Rattle.registers.proofs.stands.members_make_the_set.Goals as goal

pub returns : goal.returns
returns c = members_make_the_set_lem
