-- The last that passes a test: what its place says of a key, and that this tells the place. Assumes nothing.
use Rattle.std.proofs.Common.{◌≡◌, ℕ, zero, suc, ◌<◌, Bool, true, false, List, [], ◌∷◌, length, get_or, Some, None, Option, refl, ap, inl, inr, arith}
use Rattle.std.proofs.lemmas.Bool.{both_ways, cases_order}
use Rattle.ordered.specs.Finding.{later, last_place, LastWith}

module _ {X : Type 0} (f : X → Bool) where
  -- where the test tells whether the key is k
  module _ {K : Type 0} (key : X → K) (k : K) (yes : (x : X) → f x ≡ true → key x ≡ k) (never : (x : X) → f x ≡ false → key x ≡ k → ⊥) where
    none_after : (y : X) (ys : List X) (i : ℕ) → ((j : ℕ) (x : X) → i < j → j < length ys → key (get_or ys j x) ≡ k → ⊥) → (j : ℕ) (x : X) → suc i < j → j < suc (length ys) → key (get_or (y ∷ ys) j x) ≡ k → ⊥
    none_after y ys i h zero x a l q = absurd (omega arith)
    none_after y ys i h (suc j) x a l q = h j x (omega arith) (omega arith) q

    none_here : (y : X) (ys : List X) → ((j : ℕ) (x : X) → j < length ys → key (get_or ys j x) ≡ k → ⊥) → (key y ≡ k → ⊥) → (j : ℕ) (x : X) → j < suc (length ys) → key (get_or (y ∷ ys) j x) ≡ k → ⊥
    none_here y ys h n zero x l q = n q
    none_here y ys h n (suc j) x l q = h j x (omega arith) q

    one_here : (y : X) (ys : List X) → ((j : ℕ) (x : X) → j < length ys → key (get_or ys j x) ≡ k → ⊥) → (j : ℕ) (x : X) → 0 < j → j < suc (length ys) → key (get_or (y ∷ ys) j x) ≡ k → ⊥
    one_here y ys h zero x a l q = absurd (omega arith)
    one_here y ys h (suc j) x a l q = h j x (omega arith) q

    step : (y : X) (ys : List X) (r : Option ℕ) (b : Bool) → f y ≡ b → LastWith key ys k r → LastWith key (y ∷ ys) k (later r b)
    step y ys (Some i) b e h = (omega (arith, h.0), h.1, none_after y ys i h.2)
    step y ys None true e h = (omega arith, λ x. yes y e, one_here y ys h)
    step y ys None false e h = none_here y ys h (never y e)

    pub last_with : (xs : List X) → LastWith key xs k (last_place f xs)
    last_with [] = λ i x h e. absurd (omega arith)
    last_with (y ∷ ys) = step y ys (last_place f ys) (f y) refl (last_with ys)

  module _ (xs : List X) (r : Option ℕ)
      (within : (i : ℕ) → r ≡ Some i → i < length xs)
      (none : (j : ℕ) (x : X) → r ≡ None → j < length xs → f (get_or xs j x) ≡ false)
      (hit : (i : ℕ) (x : X) → r ≡ Some i → f (get_or xs i x) ≡ true)
      (after : (i j : ℕ) (x : X) → r ≡ Some i → i < j → j < length xs → f (get_or xs j x) ≡ false) where
    told : (x : X) (p q : Option ℕ) → r ≡ p → LastWith f xs true q → p ≡ q
    told x None None e h = refl
    told x None (Some j) e h = absurd (both_ways _ (none j x e h.0) (h.1 x))
    told x (Some i) None e h = absurd (h i x (within i e) (hit i x e))
    told x (Some i) (Some j) e h =
        ap Some (elim (cases_order i j) [
          | inl same ↦ same
          | inr apart ↦ elim apart [ inl less ↦ absurd (both_ways _ (after i j x e less h.0) (h.1 x)) | inr more ↦ absurd (h.2 i x more (within i e) (hit i x e)) ]
        ])

  pub last_place_is : (xs : List X) (r : Option ℕ) → ((i : ℕ) → r ≡ Some i → i < length xs) → ((j : ℕ) (x : X) → r ≡ None → j < length xs → f (get_or xs j x) ≡ false) → ((i : ℕ) (x : X) → r ≡ Some i → f (get_or xs i x) ≡ true) → ((i j : ℕ) (x : X) → r ≡ Some i → i < j → j < length xs → f (get_or xs j x) ≡ false) → r ≡ last_place f xs
  last_place_is [] None within none hit after = refl
  last_place_is [] (Some i) within none hit after = absurd (omega (arith, within i refl))
  last_place_is (x ∷ xs) r within none hit after = told (x ∷ xs) r within none hit after x r (last_place f (x ∷ xs)) refl (last_with f true (λ y e. e) (λ y e h. both_ways _ e h) (x ∷ xs))
