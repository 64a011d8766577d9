use Rattle.grammar.proofs.StatementSpelled.{statements_spelled}
use Rattle.grammar.proofs.statements_are_read_as_spelled.Goals as goal

pub returns : goal.returns
returns c = statements_spelled
