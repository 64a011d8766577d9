use Rattle.duties.specs.DutyLaws.{before_irreflexive, before_transitive, before_one}
use Rattle.duties.proofs.stands.duties_are_totally_ordered.Goals as goal

pub returns : goal.returns
returns c = (before_irreflexive, before_transitive, before_one)
