-- Where a list is split. Assumes nothing.
use Rattle.std.proofs.Common.{◌≡◌, ℕ, zero, suc, ◌+◌, ◌-◌, ◌<◌, ◌≤◌, ◌⊎◌, inl, inr, eqb, count_by, List, [], ◌∷◌, ◌++◌, length, get_or, take, drop, refl, sym, ap, ◌∙◌, add-one, arith}
use Rattle.std.proofs.lemmas.Bool.{cond-true, cond-false, eq-eqb, ne_eqb}
use Rattle.std.proofs.lemmas.Bool.Decides.{eqb_tells}
use Rattle.std.proofs.lemmas.List.Splits.{length-slice_split}
use Rattle.std.proofs.lemmas.List.Sums.{count_by-le-length}
use Rattle.std.proofs.lemmas.Slice.{between_to_end}
use Rattle.std.specs.List.{slice_split, onto_first}
use Rattle.text.specs.Split.{split, onto}

-- an s ends the first part, or an earlier one does
split_here : (s : ℕ) (bs : List ℕ) (i : ℕ) → i < length bs → get_or bs i 0 ≡ s
    → (split s bs ≡ take i bs ∷ split s (drop (suc i) bs)) ⊎ ((k : ℕ) × (k < i) × (get_or bs k 0 ≡ s))
split_here s [] i lt is = absurd (omega arith)
split_here s (b ∷ bs) zero lt is = inl (cond-true _ _ _ (eq-eqb b s is))
split_here s (b ∷ bs) (suc i) lt is =
    elim (eqb_tells b s) [
      | inl same ↦ inr (0, omega arith, same.1)
      | inr other ↦ elim (split_here s bs i (omega arith) is) [
        | inl e ↦ inl (cond-false _ _ _ other.0 ∙ ap (onto b) e)
        | inr k ↦ inr (suc k.0, omega (arith, k.1), k.2)
      ]
    ]

-- the same, as slices are taken up to i and from behind it
pub split_parts : (s : ℕ) (bs : List ℕ) (i : ℕ) → i < length bs → get_or bs i 0 ≡ s
    → (take i bs ∷ split s (take (length bs - (i + 1)) (drop (i + 1) bs)) ≡ split s bs) ⊎ ((k : ℕ) × (k < i) × (get_or bs k 0 ≡ s))
split_parts s bs i lt is =
    elim (split_here s bs i lt is) [
      | inl e ↦ inl (rw (between_to_end bs (i + 1) (length bs) (omega arith), add-one) (sym e))
      | inr k ↦ inr k
    ]

pub split_none : (s : ℕ) (bs : List ℕ) → ((k : ℕ) → k < length bs → get_or bs k 0 ≡ s → ⊥) → split s bs ≡ bs ∷ []
split_none s [] free = refl
split_none s (b ∷ bs) free =
    cond-false _ _ _ (ne_eqb b s (free 0 (omega arith))) ∙ ap (onto b) (split_none s bs (λ k h. free (suc k) (omega arith)))

onto_as : (b : ℕ) (ps : List (List ℕ)) → onto b ps ≡ onto_first b ps
onto_as b [] = refl
onto_as b (p ∷ ps) = refl

-- in std's words
pub split_as : (s : ℕ) (bs : List ℕ) → split s bs ≡ slice_split (λ b. eqb b s) bs
split_as s [] = refl
split_as s (b ∷ bs) = rw (split_as s bs, onto_as b (slice_split (λ b. eqb b s) bs))

split_count : (s : ℕ) (bs : List ℕ) → length (split s bs) ≡ count_by (λ b. eqb b s) bs + 1
split_count s bs = ap length (split_as s bs) ∙ length-slice_split (λ b. eqb b s) bs

-- there is at least one part
pub split_some : (s : ℕ) (bs : List ℕ) → 0 < length (split s bs)
split_some s bs = omega (arith, split_count s bs)

-- and there are no more than the bytes and one
pub split_few : (s : ℕ) (bs : List ℕ) → length (split s bs) ≤ length bs + 1
split_few s bs = omega (arith, split_count s bs, count_by-le-length (λ b. eqb b s) bs)

-- one part more at the end, where there is one in front of it
onto_end : (b : ℕ) (ps : List (List ℕ)) (r : List ℕ) → 0 < length ps → onto b (ps ++ r ∷ []) ≡ onto b ps ++ r ∷ []
onto_end b [] r some = absurd (omega arith)
onto_end b (p ∷ ps) r some = refl

-- what follows the last s is the last part
pub split_last : (s : ℕ) (bs : List ℕ) (i : ℕ) → i < length bs → get_or bs i 0 ≡ s → ((k : ℕ) → i < k → k < length bs → get_or bs k 0 ≡ s → ⊥)
    → split s bs ≡ split s (take i bs) ++ drop (suc i) bs ∷ []
split_last s [] i lt is free = absurd (omega arith)
split_last s (b ∷ bs) zero lt is free =
    cond-true _ _ _ (eq-eqb b s is) ∙ ap (λ ps. [] ∷ ps) (split_none s bs (λ k h. free (suc k) (omega arith) (omega arith)))
split_last s (b ∷ bs) (suc i) lt is free =
    let more = split_last s bs i (omega arith) is (λ k a h. free (suc k) (omega arith) (omega arith)) in
    elim (eqb_tells b s) [
      | inl same ↦ rw (same.0) (ap (λ ps. [] ∷ ps) more)
      | inr other ↦ rw (other.0) (ap (onto b) more ∙ onto_end b (split s (take i bs)) (drop (suc i) bs) (split_some s (take i bs)))
    ]
