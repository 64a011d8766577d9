use Rattle.grammar.proofs.DutySpelled.{duties_spelled}
use Rattle.grammar.proofs.duties_are_read_as_spelled.Goals as goal

pub returns : goal.returns
returns c = duties_spelled
