use Rattle.grammar.proofs.SetSpelled.{sets_spelled}
use Rattle.grammar.proofs.sets_are_read_as_spelled.Goals as goal

pub returns : goal.returns
returns c = sets_spelled
