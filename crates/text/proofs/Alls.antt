-- A test of each byte, and what is left of a piece behind its first. Assumes nothing.
use Rattle.std.proofs.Common.{◌≡◌, ℕ, zero, suc, ◌-◌, ◌<◌, ◌⊎◌, inl, inr, Bool, true, false, ◌&&◌, nat_le, leb, List, [], ◌∷◌, length, get_or, take, drop, refl, ap, ◌∙◌, arith}
use Rattle.std.proofs.lemmas.Bool.Decides.{nat_tests}
use Rattle.std.proofs.lemmas.List.{take_all}
use Rattle.text.specs.Spelling.{all, digit, inner, small, name_like, numeral}

-- f holds of each byte, or fails at one
abbrev pub Tells : (ℕ → Bool) → List ℕ → Type 0
Tells f bs =
    ((all f bs ≡ true) × ((k : ℕ) → k < length bs → f (get_or bs k 0) ≡ true)) ⊎ ((all f bs ≡ false) × ((k : ℕ) × (k < length bs) × (f (get_or bs k 0) ≡ false)))

module _ (f : ℕ → Bool) (b : ℕ) (bs : List ℕ) where
  on_all : f b ≡ true → ((k : ℕ) → k < length bs → f (get_or bs k 0) ≡ true) → (k : ℕ) → k < suc (length bs) → f (get_or (b ∷ bs) k 0) ≡ true
  on_all here there zero h = here
  on_all here there (suc k) h = there k (omega arith)

  more : (r : Bool) → f b ≡ r → Tells f bs → Tells f (b ∷ bs)
  more false here there = inr (ap (λ r. r && all f bs) here, (0, omega arith, here))
  more true here (inl h) = inl (ap (λ r. r && all f bs) here ∙ h.0, on_all here h.1)
  more true here (inr h) = inr (ap (λ r. r && all f bs) here ∙ h.0, (suc h.1.0, omega (arith, h.1.1), h.1.2))

pub all_tells : (f : ℕ → Bool) (bs : List ℕ) → Tells f bs
all_tells f [] = inl (refl, λ k h. absurd (omega arith))
all_tells f (b ∷ bs) = more f b bs (f b) refl (all_tells f bs)

-- what follows the first byte, as the rest of a slice pattern is written
abbrev pub tail : List ℕ → List ℕ
tail bs = take (length bs - 1) (drop 1 bs)

pub name_parts : (bs : List ℕ) → 0 < length bs → name_like bs ≡ (small (get_or bs 0 0) && (nat_le (length bs) 16 && all inner (tail bs)))
name_parts [] some = absurd (omega arith)
name_parts (b ∷ bs) some =
    let e : leb (length bs) 15 ≡ leb (suc (length bs)) 16 = grind (arith, nat_tests) in
    let t : tail (b ∷ bs) ≡ bs = take_all (suc (length bs) - 1) bs (omega arith) in
    rw (e, t)

pub numeral_parts : (bs : List ℕ) → 1 < length bs → numeral bs ≡ (nat_le 49 (get_or bs 0 0) && (nat_le (get_or bs 0 0) 57 && all digit (tail bs)))
numeral_parts [] some = absurd (omega arith)
numeral_parts (b ∷ []) some = absurd (omega arith)
numeral_parts (b ∷ c ∷ bs) some =
    let t : tail (b ∷ c ∷ bs) ≡ c ∷ bs = take_all (suc (suc (length bs)) - 1) (c ∷ bs) (omega arith) in
    rw t
