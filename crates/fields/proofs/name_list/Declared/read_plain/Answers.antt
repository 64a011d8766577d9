use Rattle.std.proofs.Common.{rules}
use Rattle.fields.proofs.Steps.{many_words}
use Rattle.fields.proofs.name_list.Declared.read_plain.Goals as goal

pub returns-in_default : goal.returns-in_default
returns-in_default c = search (rules, many_words)
