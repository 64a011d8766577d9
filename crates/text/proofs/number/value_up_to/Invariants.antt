use Rattle.std.proofs.Common.{◌≡◌, drop}
use Rattle.text.specs.Spelling.{value}
use Rattle.text.proofs.number.value_up_to.Given as goal

abbrev pub invariant-loop-d : goal.invariant-loop-d
invariant-loop-d l = value 0 l.digits ≡ value l.n (drop l.d-index l.digits)
