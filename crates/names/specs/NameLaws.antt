-- The order of lists of bytes, and so of names, is total. Assumes nothing.
use Rattle.std.specs.Prelude.{◌≡◌, ℕ, Bool, true, false, cond, ◌⊎◌, List, [], ◌∷◌, ◌≢◌, nat_lt, refl}
use Rattle.std.proofs.Common.{ap, ◌∙◌, inl, inr, arith}
use Rattle.std.proofs.lemmas.Bool.{both_ways, cases_Bool}
use Rattle.std.proofs.lemmas.Bool.Decides.{nat_tests}
use Rattle.names.specs.Names.{bytes_before, name_before}
use Rattle.names.specs.declared.name.Name.{Name}

-- what the first bytes say, or else r
abbrev first_by : ℕ → ℕ → Bool → Bool
first_by b c r = cond (nat_lt b c) true (cond (nat_lt c b) false r)

pub first_same : (b : ℕ) (r : Bool) → first_by b b r ≡ r
first_same b r = grind (arith, nat_tests)

first_trans : (a b c : ℕ) (r s t : Bool) → (r ≡ true → s ≡ true → t ≡ true) → first_by a b r ≡ true → first_by b c s ≡ true → first_by a c t ≡ true
first_trans a b c r s t h p q = grind (arith, nat_tests)

first_tie : (a b : ℕ) (r s : Bool) → first_by a b r ≡ false → first_by b a s ≡ false → (a ≡ b) × (r ≡ false) × (s ≡ false)
first_tie a b r s p q = (grind (arith, nat_tests), grind (arith, nat_tests), grind (arith, nat_tests))

pub bytes_irreflexive : (xs : List ℕ) → bytes_before xs xs ≡ false
bytes_irreflexive [] = refl
bytes_irreflexive (x ∷ xs) = first_same x _ ∙ bytes_irreflexive xs

pub bytes_transitive : (xs ys zs : List ℕ) → bytes_before xs ys ≡ true → bytes_before ys zs ≡ true → bytes_before xs zs ≡ true
bytes_transitive xs ys [] p q = q
bytes_transitive [] ys (z ∷ zs) p q = refl
bytes_transitive (x ∷ xs) [] (z ∷ zs) p q = absurd (both_ways false refl p)
bytes_transitive (x ∷ xs) (y ∷ ys) (z ∷ zs) p q = first_trans x y z _ _ _ (bytes_transitive xs ys zs) p q

pub bytes_total : (xs ys : List ℕ) → bytes_before xs ys ≡ false → bytes_before ys xs ≡ false → xs ≡ ys
bytes_total [] [] p q = refl
bytes_total [] (y ∷ ys) p q = absurd (both_ways true p refl)
bytes_total (x ∷ xs) [] p q = absurd (both_ways true q refl)
bytes_total (x ∷ xs) (y ∷ ys) p q =
    let t = first_tie x y _ _ p q in
    let e = bytes_total xs ys t.1 t.2 in
    ap (λ b. b ∷ xs) t.0 ∙ ap (λ bs. y ∷ bs) e

pub name_irreflexive : (n : Name) → name_before n n ≡ false
name_irreflexive n = bytes_irreflexive n.bytes

pub name_transitive : (l m n : Name) → name_before l m ≡ true → name_before m n ≡ true → name_before l n ≡ true
name_transitive l m n = bytes_transitive l.bytes m.bytes n.bytes

pub name_total : (m n : Name) → name_before m n ≡ false → name_before n m ≡ false → m ≡ n
name_total m n p q = let make : List ℕ → Name = λ bs. record { bytes = bs } in ap make (bytes_total m.bytes n.bytes p q)

-- of two unequal names just one is before the other
pub name_one : (m n : Name) → (m ≢ n) → ((name_before m n ≡ true) × (name_before n m ≡ false)) ⊎ ((name_before m n ≡ false) × (name_before n m ≡ true))
name_one m n apart =
    elim (cases_Bool (name_before m n)) [
      | inl p ↦ elim (cases_Bool (name_before n m)) [ inl q ↦ absurd (both_ways _ (name_irreflexive m) (name_transitive m n m p q)) | inr q ↦ inl (p, q) ]
      | inr p ↦ elim (cases_Bool (name_before n m)) [ inl q ↦ inr (p, q) | inr q ↦ absurd (apart (name_total m n p q)) ]
    ]
