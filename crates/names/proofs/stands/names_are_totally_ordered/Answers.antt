use Rattle.names.proofs.NameBytes.{bytes_extended, name_extended}
use Rattle.names.specs.NameLaws.{name_irreflexive, name_transitive, name_one}
use Rattle.names.proofs.stands.names_are_totally_ordered.Goals as goal

pub returns : goal.returns
returns c = (name_irreflexive, name_transitive, name_one, bytes_extended, λ v w some _ h. name_extended v w some h)
