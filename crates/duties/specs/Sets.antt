-- Numbers as sets of the numbers 0 to 63. Assumes nothing.
use Rattle.std.specs.Prelude.{◌≡◌, ℕ, ◌/◌, ◌%◌, ◌^◌, Bool, false, cond, ◌==◌, bit_or, nat_lt}

-- n is in the set that the number s stands for, the sum of 2^n over its members n
abbrev pub Has : ℕ → ℕ → Type 0
Has s n = s / 2 ^ n % 2 ≡ 1

-- the same as a test, for the numbers 0 to 63
abbrev pub has : ℕ → ℕ → Bool
has s n = cond (nat_lt n 64) (s / 2 ^ n % 2 == 1) false

-- s with n, which is no more than 63
abbrev pub adding : ℕ → ℕ → ℕ
adding s n = cond (nat_lt n 64) (bit_or s (2 ^ n)) s
