use Rattle.std.proofs.Common.{◌≡◌}
use Rattle.text.specs.Tokens.{left, parts}
use Rattle.fields.specs.Fields.{named}
use Rattle.fields.proofs.set.check_names.Given as goal

abbrev pub invariant-loop-token : goal.invariant-loop-token
invariant-loop-token l =
    (goal.iterator-loop-token).can_next l.token-iterator
    × (goal.iterator-loop-token).is_finite l.token-iterator
    × (named (left l.token-iterator) ≡ named (parts l.word))
