use Rattle.grammar.proofs.StatementSpelled.{statements_refused}
use Rattle.grammar.proofs.a_statement_is_refused_by_its_first_cause.Goals as goal

pub returns : goal.returns
returns c = statements_refused
