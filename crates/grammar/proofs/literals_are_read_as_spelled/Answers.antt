use Rattle.grammar.proofs.LiteralSpelled.{literals_spelled}
use Rattle.grammar.proofs.literals_are_read_as_spelled.Goals as goal

pub returns : goal.returns
returns c = literals_spelled
