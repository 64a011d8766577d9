use Rattle.verdicts.proofs.OneAnswer.{one_answer}
use Rattle.verdicts.proofs.stands.every_text_has_one_answer.Goals as goal

pub returns : goal.returns
returns c = one_answer
