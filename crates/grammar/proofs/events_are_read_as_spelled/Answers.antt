use Rattle.grammar.proofs.EventSpelled.{events_spelled}
use Rattle.grammar.proofs.events_are_read_as_spelled.Goals as goal

pub returns : goal.returns
returns c = events_spelled
