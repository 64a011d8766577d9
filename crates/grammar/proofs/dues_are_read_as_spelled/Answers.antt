use Rattle.grammar.proofs.DueSpelled.{dues_spelled}
use Rattle.grammar.proofs.dues_are_read_as_spelled.Goals as goal

pub returns : goal.returns
returns c = dues_spelled
