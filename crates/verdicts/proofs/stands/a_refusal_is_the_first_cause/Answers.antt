use Rattle.verdicts.proofs.RefusedFirst.{texts_refused}
use Rattle.verdicts.proofs.stands.a_refusal_is_the_first_cause.Goals as goal

pub returns : goal.returns
returns c = texts_refused
