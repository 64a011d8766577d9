-- What is checked of a text as a whole: the first byte that is not plain, and the end. Assumes nothing.
use Rattle.std.proofs.Common.{◌≡◌, ℕ, ◌+◌, ◌-◌, ◌<◌, ◌≤◌, Bool, true, false, not, cond, eqb, ltb, List, [], ◌∷◌, length, get_or, take, count_by, inl, inr, Some, None, Option, refl, sym, ap, ◌∙◌, zero, suc, add-zero, arith, eq-eqb}
use Rattle.std.specs.List.{position, position_or_len}
use Rattle.std.proofs.lemmas.Bool.{cases_Bool, cond-true, cond-false, not-false, not-true}
use Rattle.std.proofs.lemmas.Bool.Decides.{nat_tests}
use Rattle.std.proofs.lemmas.List.Quantifiers.{position-Some}
use Rattle.std.proofs.lemmas.List.Recursion.{is_count_by}
use Rattle.std.proofs.lemmas.List.Sums.{prefix_len_passes}
use Rattle.text.specs.Split.{onto, split}
use Rattle.verdicts.specs.Refused.{feeds}
use Rattle.verdicts.specs.Texts.{plain_byte, stray_line, unfinished_line}
use Rattle.text.proofs.Splits.{split_some}

-- line feeds are counted as std counts
pub feeds_counted : (bs : List ℕ) → feeds bs ≡ count_by (λ b. eqb b 10) bs
feeds_counted bs = is_count_by feeds (λ b. eqb b 10) refl (λ b bs. ap (λ n. cond (eqb b 10) n (feeds bs)) (omega arith)) bs

-- a line feed counts as a line begun, or as one more line feed
counted : (c : Bool) (m k : ℕ) → cond c (k + 1) k + m ≡ k + cond c (m + 1) m
counted true m k = omega arith
counted false m k = omega arith

-- the first byte that is not plain, at i
stray_at : (k : ℕ) (bs : List ℕ) (i : ℕ) → i < length bs → ((j : ℕ) → j < i → plain_byte (get_or bs j 0) ≡ true) → plain_byte (get_or bs i 0) ≡ false → stray_line k bs ≡ Some (k + feeds (take i bs))
stray_at k [] i within before here = absurd (omega arith)
stray_at k (b ∷ bs) zero within before here = cond-false (plain_byte b) _ _ here ∙ ap Some (sym (add-zero k))
stray_at k (b ∷ bs) (suc i) within before here =
    cond-true (plain_byte b) _ _ (before 0 (omega arith))
    ∙ stray_at (cond (eqb b 10) (k + 1) k) bs i (omega arith) (λ j l. before (suc j) (omega arith)) here
    ∙ ap Some (counted (eqb b 10) (feeds (take i bs)) k)

stray_nowhere : (k : ℕ) (bs : List ℕ) → ((j : ℕ) → j < length bs → plain_byte (get_or bs j 0) ≡ true) → stray_line k bs ≡ None
stray_nowhere k [] each = refl
stray_nowhere k (b ∷ bs) each =
    cond-true (plain_byte b) _ _ (each 0 (omega arith)) ∙ stray_nowhere (cond (eqb b 10) (k + 1) k) bs (λ j l. each (suc j) (omega arith))

-- what the search for that byte tests
abbrev pub is_stray : ℕ → Bool
is_stray b = not (plain_byte b)

pub stray_found : (bs : List ℕ) (i : ℕ) → position is_stray bs ≡ Some i → stray_line 1 bs ≡ Some (1 + feeds (take i bs))
stray_found bs i found =
    let (within, here, before) = position-Some is_stray bs i 0 found in
    stray_at 1 bs i within (λ j l. not-false _ (before j l)) (not-true _ here)

none_before : (n m : ℕ) → cond (ltb n m) (Some n) None ≡ None → m ≤ n
none_before n m none = grind (arith, nat_tests)

pub stray_none : (bs : List ℕ) → position is_stray bs ≡ None → stray_line 1 bs ≡ None
stray_none bs none =
    let all : length bs ≤ position_or_len is_stray bs = none_before _ _ none in
    stray_nowhere 1 bs (λ j l. not-false _ (not-true _ (prefix_len_passes (λ b. not (is_stray b)) bs j 0 (omega arith))))

-- a part that another follows counts as one line
unended_tail : (k : ℕ) (p : List ℕ) (ws : List (List ℕ)) → 0 < length ws → unfinished_line k (p ∷ ws) ≡ unfinished_line (k + 1) ws
unended_tail k p [] some = absurd (omega arith)
unended_tail k [] (w ∷ ws) some = refl
unended_tail k (b ∷ p) (w ∷ ws) some = refl

unended_more : (k : ℕ) (p q : List ℕ) → unfinished_line k (p ∷ split 10 q) ≡ unfinished_line (k + 1) (split 10 q)
unended_more k p q = unended_tail k p (split 10 q) (split_some 10 q)

-- bytes in front of the first part change nothing, where it has a byte already
onto_onto : (k b c : ℕ) (ps : List (List ℕ)) → unfinished_line k (onto b (onto c ps)) ≡ unfinished_line k (onto c ps)
onto_onto k b c [] = refl
onto_onto k b c (p ∷ []) = refl
onto_onto k b c (p ∷ q ∷ ps) = refl

onto_more : (k b c : ℕ) (cs : List ℕ) → unfinished_line k (onto b (split 10 (c ∷ cs))) ≡ unfinished_line k (split 10 (c ∷ cs))
onto_more k b c cs =
    elim (cases_Bool (eqb c 10)) [
      | inl e ↦
          ap (λ ps. unfinished_line k (onto b ps)) (cond-true (eqb c 10) _ _ e) ∙ unended_more k (b ∷ []) cs ∙ sym (unended_more k [] cs) ∙ ap (unfinished_line k) (sym (cond-true (eqb c 10) _ _ e))
      | inr e ↦
          ap (λ ps. unfinished_line k (onto b ps)) (cond-false (eqb c 10) _ _ e) ∙ onto_onto k b c (split 10 cs) ∙ ap (unfinished_line k) (sym (cond-false (eqb c 10) _ _ e))
    ]

-- the last line is unfinished, unless the last byte is a line feed
unended_last : (k b : ℕ) (bs : List ℕ) → unfinished_line k (split 10 (b ∷ bs)) ≡ cond (eqb (get_or (b ∷ bs) (length bs) 0) 10) None (Some (k + feeds (b ∷ bs)))
unended_last k b [] =
    elim (cases_Bool (eqb b 10)) [
      | inl e ↦ ap (unfinished_line k) (cond-true (eqb b 10) _ _ e) ∙ sym (cond-true (eqb b 10) _ _ e)
      | inr e ↦ ap (unfinished_line k) (cond-false (eqb b 10) _ _ e) ∙ ap Some (sym (add-zero k)) ∙ ap (λ x. Some (k + cond x 1 0)) (sym e) ∙ sym (cond-false (eqb b 10) _ _ e)
    ]
unended_last k b (c ∷ cs) =
    let P : ℕ → Option ℕ = λ n. cond (eqb (get_or (c ∷ cs) (length cs) 0) 10) None (Some n) in
    elim (cases_Bool (eqb b 10)) [
      | inl e ↦
          ap (unfinished_line k) (cond-true (eqb b 10) _ _ e) ∙ unended_more k [] (c ∷ cs) ∙ unended_last (k + 1) c cs ∙ ap P (counted true (feeds (c ∷ cs)) k) ∙ ap (λ x. P (k + cond x (feeds (c ∷ cs) + 1) (feeds (c ∷ cs)))) (sym e)
      | inr e ↦
          ap (unfinished_line k) (cond-false (eqb b 10) _ _ e) ∙ onto_more k b c cs ∙ unended_last k c cs ∙ ap (λ x. P (k + cond x (feeds (c ∷ cs) + 1) (feeds (c ∷ cs)))) (sym e)
    ]

last_by : (bs : List ℕ) → 1 ≤ length bs → unfinished_line 1 (split 10 bs) ≡ cond (eqb (get_or bs (length bs - 1) 0) 10) None (Some (1 + feeds bs))
last_by [] some = absurd (omega arith)
last_by (b ∷ bs) some =
    let e : length bs ≡ suc (length bs) - 1 = omega arith in
    unended_last 1 b bs ∙ ap (λ i. cond (eqb (get_or (b ∷ bs) i 0) 10) None (Some (1 + feeds (b ∷ bs)))) e

-- the end, by its last byte
pub last_ended : (bs : List ℕ) → 1 ≤ length bs → get_or bs (length bs - 1) 0 ≡ 10 → unfinished_line 1 (split 10 bs) ≡ None
last_ended bs some h = last_by bs some ∙ cond-true _ _ _ (eq-eqb _ 10 h)

pub last_unended : (bs : List ℕ) → 1 ≤ length bs → (get_or bs (length bs - 1) 0 ≡ 10 → ⊥) → unfinished_line 1 (split 10 bs) ≡ Some (1 + feeds bs)
last_unended bs some h =
    let other : eqb (get_or bs (length bs - 1) 0) 10 ≡ false = grind (arith, nat_tests) in last_by bs some ∙ cond-false _ _ _ other
