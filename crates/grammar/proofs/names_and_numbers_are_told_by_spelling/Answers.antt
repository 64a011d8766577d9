use Rattle.grammar.proofs.Told.{names_told, numbers_told}
use Rattle.grammar.proofs.names_and_numbers_are_told_by_spelling.Goals as goal

pub returns : goal.returns
returns c = record { names = names_told; numbers = numbers_told }
