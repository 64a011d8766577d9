-- Including one in an ascending list enters it into the set that the list is, and excluding it strikes it. Assumes nothing but a total order.
use Rattle.std.proofs.Common.{◌≡◌, ℕ, suc, ◌≤◌, Bool, true, false, cond, ◌||◌, ltb, ◌⊎◌, ◌↔◌, List, length, Decides, sym, refl, ◌∙◌, subst, inl, inr, arith}
use Rattle.std.proofs.lemmas.Bool.{both_ways, or_parts, or_from, or_cases, ltb-true, ltb-false, le-ltb}
use Rattle.std.proofs.lemmas.Bool.Decides.{not_from_Decides, Decides-at}
use Rattle.ordered.specs.Ascending.{◌∈◌, rising, holding, including, excluding}
use Rattle.ordered.specs.Changes.{Entered, Struck}
use Rattle.ordered.proofs.Sets.{holding_decides, in_including, in_excluding, length_including}

-- what is entered under a limit keeps it
module _ {X : Type 0} (less : X → X → Bool) (x : X) (xs : List X) (room : ℕ) (fits : length xs ≤ room) (r : Bool) (xs' : List X) (answer : r ≡ (holding less x xs || ltb (length xs) room)) (rows : xs' ≡ cond r (including less x xs) xs) where
  grown : (b : Bool) → r ≡ b → length (cond b (including less x xs) xs) ≤ room
  grown false t = fits
  grown true t =
      elim (holding less x xs) as (λ h. holding less x xs ≡ h → length (including less x xs) ≡ cond h (length xs) (suc (length xs)) → length (including less x xs) ≤ room) [
        | true ↦ λ h e. omega arith
        | false ↦ λ h e. elim (or_cases _ _ (sym answer ∙ t)) [ inl i ↦ absurd (both_ways _ h i) | inr i ↦ omega (arith, ltb-true _ _ i) ]
      ]
      refl (length_including less x xs)

  pub entered_fits : length xs' ≤ room
  entered_fits = subst (λ l. length l ≤ room) (sym rows) (grown r refl)

module _ {X : Type 0} (less : X → X → Bool) (irreflexive : (x : X) → less x x ≡ false) (transitive : (x y z : X) → less x y ≡ true → less y z ≡ true → less x z ≡ true) (total : (x y : X) → less x y ≡ false → less y x ≡ false → x ≡ y) (x : X) (xs : List X) (up : rising less xs ≡ true) where
  pub held : Decides (holding less x xs) (x ∈ xs)
  held = holding_decides less irreflexive transitive total x xs up

  module _ (room : ℕ) (fits : length xs ≤ room) (r : Bool) (xs' : List X) (answer : r ≡ (holding less x xs || ltb (length xs) room)) (rows : xs' ≡ cond r (including less x xs) xs) where
    refuses : (r ≡ false) ↔ ((x ∈ xs → ⊥) × (length xs ≡ room))
    refuses = (
      (λ e. let p = or_parts _ _ (sym answer ∙ e) in (not_from_Decides _ held p.0, omega (arith, ltb-false _ _ p.1))),
      (λ p. answer ∙ or_from _ _ (elim (holding less x xs) as (λ b. holding less x xs ≡ b → b ≡ false) [ true ↦ λ e. absurd (p.0 (held.0 e)) | false ↦ λ e. refl ] refl) (le-ltb _ _ (omega (arith, p.1)))),
    )

    adds : (b : Bool) → r ≡ b → (z : X) → z ∈ cond b (including less x xs) xs ↔ ((z ∈ xs) ⊎ ((z ≡ x) × (r ≡ true)))
    adds true t z =
        let there = in_including less irreflexive transitive total z x xs in (
          (λ m. elim (there.0 m) [ inl n ↦ inl n | inr i ↦ inr (i, t) ]),
          (λ m. there.1 (elim m [ inl n ↦ inl n | inr p ↦ inr p.0 ])),
        )
    adds false t z = ((λ m. inl m), (λ m. elim m [ inl n ↦ n | inr p ↦ absurd (both_ways _ t p.1) ]))

    pub entered : Entered x r xs xs' room
    entered = record {
      refused = refuses;
      each = λ z. subst (λ l. z ∈ l ↔ ((z ∈ xs) ⊎ ((z ≡ x) × (r ≡ true)))) (sym rows) (adds r refl z);
    }

  pub struck : (r : Bool) (xs' : List X) → r ≡ holding less x xs → xs' ≡ excluding less x xs → Struck x r xs xs'
  struck r xs' answer rows = record {
    answer = Decides-at _ _ answer held;
    each = λ z. subst (λ l. z ∈ l ↔ ((z ∈ xs) × (z ≡ x → ⊥))) (sym rows) (in_excluding less irreflexive transitive total z x xs up);
  }
