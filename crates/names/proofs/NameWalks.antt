-- What the code does with the bytes of names. Assumes nothing.
use Rattle.std.proofs.Common.{◌≡◌, ℕ, ◌+◌, ◌-◌, ◌==◌, ◌⊎◌, ◌∙◌, sym, inl, inr, nat_lt, min, Bool, true, false, not, cond, List, [], ◌∷◌, ◌++◌, length, take, drop, replicate, None, refl, ap, one-add, arith}
use Rattle.std.proofs.lemmas.Bool.Decides.{nat_tests}
use Rattle.std.proofs.lemmas.List.{drop-replicate, take-append-le, take-replicate}
use Rattle.std.proofs.lemmas.Grind.{common_steps}
use Rattle.std.proofs.Math.Seq.{take-append-add}
use native.Mathlib.Decide.{ℕ_discrete}
use Rattle.std.specs.List.{position, position_or_len}
use Rattle.names.specs.Names.{spelled, bytes_before}

-- where one list ends, the shorter of the two stood before the other
ended_by : (xs ys : List ℕ) (m n : ℕ) → m + length ys ≡ n + length xs → (length xs ≡ 0) ⊎ (length ys ≡ 0) → nat_lt m n ≡ bytes_before xs ys
ended_by xs [] m n e h = grind (arith, nat_tests)
ended_by [] (y ∷ ys) m n e h = grind (arith, nat_tests)
ended_by (x ∷ xs) (y ∷ ys) m n e h = absurd (elim h [ inl p ↦ omega arith | inr q ↦ omega arith ])

pub ended : (vs ws xs ys : List ℕ) → bytes_before vs ws ≡ bytes_before xs ys → length vs + length ys ≡ length ws + length xs → (length xs ≡ 0) ⊎ (length ys ≡ 0) → nat_lt (length vs) (length ws) ≡ bytes_before vs ws
ended vs ws xs ys same e h = ended_by xs ys _ _ e h ∙ sym same

-- the first bytes, k at most, and zeros after them up to k
padded : (bs : List ℕ) (n k : ℕ) → n ≡ min (length bs) k → take n bs ++ drop n (replicate k 0) ≡ take k (bs ++ replicate k 0)
padded bs n k e = elim (ℕ_discrete (k - length bs) 0) [
  | yes p ↦ grind (arith, common_steps, take-append-le {A = ℕ}, drop-replicate {X = ℕ})
  | no p ↦ let w : k ≡ length bs + (k - length bs) = omega arith in grind (arith, common_steps, take-append-add {A = ℕ} bs (replicate k 0) (k - length bs), take-replicate {X = ℕ} (k - length bs) k 0 (omega arith), drop-replicate {X = ℕ} n k 0)
]

-- as they are copied over 16 zeros
pub filled : (bs xs zs : List ℕ) (n : ℕ) → n ≡ min (length bs) 16 → xs ≡ take n bs → zs ≡ replicate 16 0 → xs ++ drop n zs ≡ take 16 (bs ++ replicate 16 0)
filled bs xs zs n e f g = rw (f, g) (padded bs n 16 e)

-- with one more byte in front, where the test of it is t
first_step : (t : Bool) (b k : ℕ) (bs q : List ℕ) → take k bs ≡ q → take (cond (not t) (1 + k) 0) (b ∷ bs) ≡ cond t [] (b ∷ q)
first_step true b k bs q e = refl
first_step false b k bs q e = rw one-add (ap (λ l. b ∷ l) e)

-- the first zero ends a name
pub spelled_first : (bs : List ℕ) → take (position_or_len (λ b. b == 0) bs) bs ≡ spelled bs
spelled_first [] = refl
spelled_first (b ∷ bs) = first_step (b == 0) b _ bs _ (spelled_first bs)

-- and where there is none it has every byte
pub spelled_whole : (bs : List ℕ) → position (λ b. b == 0) bs ≡ None → bs ≡ spelled bs
spelled_whole bs none = let e = spelled_first bs in grind (arith, common_steps, nat_tests)
