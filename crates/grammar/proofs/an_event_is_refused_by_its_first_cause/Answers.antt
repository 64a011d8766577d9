use Rattle.grammar.proofs.EventSpelled.{events_refused}
use Rattle.grammar.proofs.an_event_is_refused_by_its_first_cause.Goals as goal

pub returns : goal.returns
returns c = events_refused
