use Rattle.std.proofs.Common.{◌≡◌}
use Rattle.text.specs.Tokens.{left, parts}
use Rattle.fields.specs.Fields.{tags_of}
use Rattle.fields.proofs.set.collect_tags.Given as goal

abbrev pub invariant-loop-token : goal.invariant-loop-token
invariant-loop-token l =
    (goal.iterator-loop-token).can_next l.token-iterator
    × (goal.iterator-loop-token).is_finite l.token-iterator
    × (tags_of l.tags.names.now l.set.0 (left l.token-iterator) ≡ tags_of l.tags.names.now 0 (parts l.word))
