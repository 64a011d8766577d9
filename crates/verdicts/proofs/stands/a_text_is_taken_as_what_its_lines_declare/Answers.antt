use Rattle.verdicts.proofs.TextDeclared.{texts_declared}
use Rattle.verdicts.proofs.stands.a_text_is_taken_as_what_its_lines_declare.Goals as goal

pub returns : goal.returns
returns c = texts_declared
