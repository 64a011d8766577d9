-- The number that digits write. Assumes nothing.
use Rattle.std.proofs.Common.{ℕ, ◌+◌, ◌-◌, ◌*◌, ◌<◌, ◌≤◌, List, [], ◌∷◌, length, get_or, drop, drop-cons, suc, arith}
use Rattle.text.specs.Spelling.{value}

value_grows : (a : ℕ) (ds : List ℕ) → a ≤ value a ds
value_grows a [] = omega arith
value_grows a (d ∷ ds) = omega (arith, value_grows (a * 10 + (d - 48)) ds)

-- the next digit is counted in what is still to come
pub value_next : (a : ℕ) (ds : List ℕ) (i : ℕ) → i < length ds → a * 10 + (get_or ds i 0 - 48) ≤ value a (drop i ds)
value_next a ds i lt = rw (drop-cons ds i 0 lt) (value_grows (a * 10 + (get_or ds i 0 - 48)) (drop (suc i) ds))
