-- Unions of ascending lists as sets, under a total order. Assumes nothing else.
use Rattle.std.proofs.Common.{◌≡◌, suc, ◌+◌, ◌≤◌, Bool, true, false, cond, ◌⊎◌, ◌↔◌, List, [], ◌∷◌, length, Some, None, Option, sym, refl, ap, ◌∙◌, inl, inr, arith}
use Rattle.std.proofs.lemmas.Bool.{both_ways, and_parts}
use Rattle.std.proofs.lemmas.Bool.Decides.{Decides-or}
use Rattle.ordered.specs.Ascending.{◌∈◌, member, below, rising, holding, including, union, LeastSuch}
use Rattle.ordered.proofs.Sets as sets

module _ {X : Type 0} (less : X → X → Bool) (irreflexive : (x : X) → less x x ≡ false) (transitive : (x y z : X) → less x y ≡ true → less y z ≡ true → less x z ≡ true) (total : (x y : X) → less x y ≡ false → less y x ≡ false → x ≡ y) where
  pub in_union : (z : X) (xs ys : List X) → z ∈ union less xs ys ↔ ((z ∈ xs) ⊎ (z ∈ ys))
  in_union z xs ys =
      let all = sets.member_decides less irreflexive transitive total z (union less xs ys) in
      let parts = Decides-or (member less z xs) (member less z ys) (sets.member_decides less irreflexive transitive total z xs) (sets.member_decides less irreflexive transitive total z ys) in
      let same = sets.member_union less irreflexive transitive total z xs ys in
      ((λ m. parts.0 (sym same ∙ all.1 m)), (λ m. all.0 (same ∙ parts.1 m)))

  not_held : (x : X) (ys : List X) → rising less ys ≡ true → (x ∈ ys → ⊥) → holding less x ys ≡ false
  not_held x ys up h =
      sets.holding_member less irreflexive transitive total x ys up
      ∙ elim (member less x ys) as (λ b. member less x ys ≡ b → b ≡ false) [ true ↦ λ e. absurd (h ((sets.member_decides less irreflexive transitive total x ys).0 e)) | false ↦ λ e. refl ] refl

  -- what is above each of a list is above this one of it
  below_each : (x z : X) (ys : List X) → below less x ys ≡ true → z ∈ ys → less x z ≡ true
  below_each x z [] h m = absurd m
  below_each x z (y ∷ ys) h m = let p = and_parts _ _ h in elim m [ inl e ↦ ap (less x) e ∙ p.0 | inr n ↦ below_each x z ys p.1 n ]

  never : (x z : X) → less x z ≡ true → z ≡ x → ⊥
  never x z h e = both_ways (less x x) (irreflexive x) (ap (less x) (sym e) ∙ h)

  pub length_union : (xs ys : List X) → rising less xs ≡ true → rising less ys ≡ true → ((z : X) → z ∈ xs → z ∈ ys → ⊥) → length (union less xs ys) ≡ length xs + length ys
  length_union [] ys h k apart = omega arith
  length_union (x ∷ xs) ys h k apart =
      let p = and_parts _ _ h in
      let new : holding less x (union less xs ys) ≡ false =
      not_held x (union less xs ys) (sets.rising_union less irreflexive transitive total xs ys k)
      (λ m. elim ((in_union x xs ys).0 m) [ inl a ↦ never x x (below_each x x xs p.0 a) refl | inr b ↦ apart x (inl refl) b ]) in
      let tail = length_union xs ys p.1 k (λ z m. apart z (inr m)) in
      let here : length (including less x (union less xs ys)) ≡ suc (length (union less xs ys)) =
      sets.length_including less x (union less xs ys) ∙ ap (λ b. cond b (length (union less xs ys)) (suc (length (union less xs ys)))) new in
      omega (arith, here, tail)

  -- an ascending list is no longer than one that has all of it
  pub length_within : (xs ys : List X) → rising less xs ≡ true → rising less ys ≡ true → ((z : X) → z ∈ xs → z ∈ ys) → length xs ≤ length ys
  length_within [] ys h k all = omega arith
  length_within (x ∷ xs) [] h k all = absurd (all x (inl refl))
  length_within (x ∷ xs) (y ∷ ys) h k all =
      let p = and_parts _ _ h in
      let q = and_parts _ _ k in
      elim (all x (inl refl)) [
        | inl e ↦ let rest : length xs ≤ length ys = length_within xs ys p.1 q.1 (λ z m. elim (all z (inr m)) [ inl f ↦ absurd (never x z (below_each x z xs p.0 m) (f ∙ sym e)) | inr n ↦ n ]) in
            omega arith
        | inr n ↦ let above : less y x ≡ true = below_each y x ys q.0 n in
            let over : (z : X) → z ∈ (x ∷ xs) → less y z ≡ true =
            λ z m. elim m [ inl e ↦ ap (less y) e ∙ above | inr i ↦ transitive y x z above (below_each x z xs p.0 i) ] in
            let rest : length (x ∷ xs) ≤ length ys = length_within (x ∷ xs) ys h q.1 (λ z m. elim (all z m) [ inl f ↦ absurd (never y z (over z m) f) | inr i ↦ i ]) in
            omega arith
      ]

  -- and with one more than that, at most one longer
  pub length_one_more : (x : X) (xs ys : List X) → rising less xs ≡ true → rising less ys ≡ true → ((z : X) → z ∈ xs → (z ≡ x) ⊎ (z ∈ ys)) → length xs ≤ length ys + 1
  length_one_more x xs ys h k all =
      let most : length xs ≤ length (including less x ys) =
      length_within xs (including less x ys) h (sets.rising_including less irreflexive transitive total x ys k)
      (λ z m. (in_union z (x ∷ []) ys).1 (elim (all z m) [ inl e ↦ inl (inl e) | inr n ↦ inr n ])) in
      elim (holding less x ys) as (λ b. length (including less x ys) ≡ cond b (length ys) (suc (length ys)) → length xs ≤ length ys + 1) [ true ↦ λ e. omega arith | false ↦ λ e. omega arith ] (sets.length_including less x ys)

  -- what is not less carries over too
  not_less_trans : (z y x : X) → less z y ≡ false → less y x ≡ false → less z x ≡ false
  not_less_trans z y x h k =
      elim (less z x) as (λ b. less z x ≡ b → b ≡ false) [
        | true ↦ λ f. elim (less y z) as (λ b. less y z ≡ b → true ≡ false) [ true ↦ λ e. sym (transitive y z x e f) ∙ k | false ↦ λ e. sym f ∙ ap (λ v. less v x) (total z y h e) ∙ k ] refl
        | false ↦ λ f. refl
      ]
      refl

  not_after : (y x : X) → less y x ≡ true → less x y ≡ false
  not_after y x e = elim (less x y) as (λ b. less x y ≡ b → b ≡ false) [ true ↦ λ f. sym (transitive y x y e f) ∙ irreflexive y | false ↦ λ f. refl ] refl

  module _ (P : X → Type 0) (xs ys : List X) where
    pub least_second : (r : Option X) → LeastSuch less P xs None → LeastSuch less P ys r → LeastSuch less P (union less xs ys) r
    least_second None h k = λ z m o. elim ((in_union z xs ys).0 m) [ inl a ↦ h z a o | inr b ↦ k z b o ]
    least_second (Some y) h k = (
      (in_union y xs ys).1 (inr k.0),
      k.1,
      λ z m o. elim ((in_union z xs ys).0 m) [ inl a ↦ absurd (h z a o) | inr b ↦ k.2 z b o ],
    )

    pub least_first : (x : X) → LeastSuch less P xs (Some x) → LeastSuch less P ys None → LeastSuch less P (union less xs ys) (Some x)
    least_first x h k = (
      (in_union x xs ys).1 (inl h.0),
      h.1,
      λ z m o. elim ((in_union z xs ys).0 m) [ inl a ↦ h.2 z a o | inr b ↦ absurd (k z b o) ],
    )

    pub least_both : (x y : X) → LeastSuch less P xs (Some x) → LeastSuch less P ys (Some y) → LeastSuch less P (union less xs ys) (cond (less y x) (Some y) (Some x))
    least_both x y h k =
        elim (less y x) as (λ b. less y x ≡ b → LeastSuch less P (union less xs ys) (cond b (Some y) (Some x))) [
          | true ↦ λ e. (
            (in_union y xs ys).1 (inr k.0),
            k.1,
            λ z m o. elim ((in_union z xs ys).0 m) [ inl a ↦ not_less_trans z x y (h.2 z a o) (not_after y x e) | inr b ↦ k.2 z b o ],
          )
          | false ↦ λ e. (
            (in_union x xs ys).1 (inl h.0),
            h.1,
            λ z m o. elim ((in_union z xs ys).0 m) [ inl a ↦ h.2 z a o | inr b ↦ not_less_trans z y x (k.2 z b o) e ],
          )
        ]
        refl
