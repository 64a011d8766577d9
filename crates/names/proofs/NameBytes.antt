-- Lists of bytes that spell a name, as names. Assumes nothing.
use Rattle.std.proofs.Common.{◌≡◌, ℕ, zero, suc, ◌<◌, ◌≤◌, true, false, leb, List, [], ◌∷◌, ◌++◌, length, take, replicate, refl, ap, ◌∙◌, arith}
use Rattle.std.proofs.lemmas.Bool.{and_parts, and_from, both_ways, cond-false, leb-true, or_left, ne_eqb}
use Rattle.std.proofs.lemmas.Bool.Decides.{nat_tests}
use Rattle.text.specs.Spelling.{all, inner, small, name_like}
use Rattle.names.specs.Names.{spelled, name_of, name_bytes, bytes_before, name_before}
use Rattle.names.specs.NameLaws.{first_same}

inner_some : (b : ℕ) → inner b ≡ true → 0 < b
inner_some b h = grind (arith, nat_tests)

pub all_inner_lem : (w : List ℕ) → name_like w ≡ true → all inner w ≡ true
all_inner_lem [] h = absurd (both_ways false refl h)
all_inner_lem (b ∷ bs) h =
    let p = and_parts _ _ h in
    and_from _ _ (or_left (small b) _ p.0) (and_parts _ _ p.1).1

pub name_short : (w : List ℕ) → name_like w ≡ true → length w ≤ 16
name_short [] h = omega arith
name_short (b ∷ bs) h =
    let tests = and_parts (leb (length bs) 15) (all inner bs) (and_parts (small b) _ h).1 in
    omega (arith, leb-true (length bs) 15 tests.0)

-- zeros after the bytes are not read again
spelled_filled : (w : List ℕ) (n k : ℕ) → length w ≤ n → all inner w ≡ true → spelled (take n (w ++ replicate k 0)) ≡ w
spelled_filled [] zero k le h = refl
spelled_filled [] (suc n) zero le h = refl
spelled_filled [] (suc n) (suc k) le h = refl
spelled_filled (b ∷ bs) zero k le h = absurd (omega arith)
spelled_filled (b ∷ bs) (suc n) k le h =
    let p = and_parts _ _ h in
    let lt = inner_some b p.0 in
    cond-false _ _ _ (ne_eqb b 0 (λ e. omega arith)) ∙ ap (λ q. b ∷ q) (spelled_filled bs n k (omega arith) p.1)

-- a name keeps the bytes that it is made of
pub name_kept : (w : List ℕ) → name_like w ≡ true → name_bytes (name_of w) ≡ w
name_kept w h = spelled_filled w 16 16 (name_short w h) (all_inner_lem w h)

pub bytes_extended : (v w : List ℕ) → (w ≡ [] → ⊥) → bytes_before v (v ++ w) ≡ true
bytes_extended [] [] some = absurd (some refl)
bytes_extended [] (c ∷ w) some = refl
bytes_extended (b ∷ v) w some = first_same b _ ∙ bytes_extended v w some

filled_extended : (v w : List ℕ) (n k j : ℕ) → (w ≡ [] → ⊥) → length (v ++ w) ≤ n → all inner (v ++ w) ≡ true → bytes_before (take n (v ++ replicate k 0)) (take n ((v ++ w) ++ replicate j 0)) ≡ true
filled_extended [] [] n k j some le h = absurd (some refl)
filled_extended [] (c ∷ w) zero k j some le h = absurd (omega arith)
filled_extended [] (c ∷ w) (suc n) zero j some le h = refl
filled_extended [] (c ∷ w) (suc n) (suc k) j some le h =
    let p = and_parts _ _ h in
    let lt = inner_some c p.0 in
    grind (arith, nat_tests)
filled_extended (b ∷ v) w zero k j some le h = absurd (omega arith)
filled_extended (b ∷ v) w (suc n) k j some le h = first_same b _ ∙ filled_extended v w n k j some (omega arith) (and_parts _ _ h).1

-- a name stands before its own extensions
pub name_extended : (v w : List ℕ) → (w ≡ [] → ⊥) → name_like (v ++ w) ≡ true → name_before (name_of v) (name_of (v ++ w)) ≡ true
name_extended v w some h = filled_extended v w 16 16 16 some (name_short (v ++ w) h) (all_inner_lem (v ++ w) h)
