use Rattle.std.proofs.Common.{◌≡◌, ℕ, ◌+◌, ◌<◌}
use Rattle.chain.specs.Walk.{row_at}
use Rattle.chain.proofs.relink.string_up.Given as goal

abbrev pub invariant-loop-p : goal.invariant-loop-p
invariant-loop-p l = (q : ℕ) → q < l.p → (row_at l.row-items q).next ≡ q + 1
