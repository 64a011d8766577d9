-- Ascending lists as sets, under a total order. Assumes nothing else.
use Rattle.std.proofs.Common.{◌≡◌, suc, ◌≤◌, Bool, true, false, cond, not, ◌&&◌, ◌||◌, ◌⊎◌, ◌↔◌, List, [], ◌∷◌, length, Some, None, Decides, Option, find, sym, refl, ap, ◌∙◌, subst, inl, inr, arith}
use Rattle.std.proofs.lemmas.Bool.{both_ways, not-true, not_from_true, not_from_false, and_parts, and_from, and_left, or_from, or_left, or_right, or_cases, false_from_ne_true}
use Rattle.std.proofs.Math.Bool.{and-false, or_assoc, or_comm, or_self_left}
use Rattle.std.proofs.lemmas.Bool.Decides.{Decides-at, Decides-or}
use Rattle.ordered.specs.Ascending.{same, member, below, rising, including, excluding, holding, following, leading, union, Least, ◌∈◌, Above, LeastSuch}

or_swap : (a b c : Bool) → (a || (b || c)) ≡ (b || (a || c))
or_swap a b c = sym (or_assoc a b c) ∙ ap (λ q. q || c) (or_comm a b) ∙ or_assoc b a c

skip_other : (s t m : Bool) → (t ≡ true → s ≡ false) → (t || (not s && m)) ≡ (not s && (t || m))
skip_other true true m h = absurd (both_ways true (h refl) refl)
skip_other true false m h = refl
skip_other false true m h = refl
skip_other false false m h = refl

skip_none : (s q : Bool) → (s ≡ true → q ≡ false) → q ≡ (not s && q)
skip_none true q h = h refl
skip_none false q h = refl

skip_this : (s m : Bool) → (s ≡ true → m ≡ false) → m ≡ (not s && (s || m))
skip_this true m h = h refl
skip_this false m h = refl

-- what is left of `same z x || m` beside what m was without x
tails : (s m n : Bool) → (s ≡ true → m ≡ false) → (s ≡ true → n ≡ false) → (s || m) ≡ (s || n) → m ≡ n
tails true m n h k e = h refl ∙ sym (k refl)
tails false m n h k e = e

module _ {X : Type 0} (less : X → X → Bool) where
  pub length_including : (x : X) (xs : List X) → length (including less x xs) ≡ cond (holding less x xs) (length xs) (suc (length xs))
  length_including x [] = refl
  length_including x (y ∷ ys) =
      elim (less y x) as (λ b. length (cond b (y ∷ including less x ys) (cond (less x y) (x ∷ (y ∷ ys)) (y ∷ ys))) ≡ cond (cond b (holding less x ys) (not (less x y))) (suc (length ys)) (suc (suc (length ys)))) [
        | true ↦ ap suc (length_including x ys) ∙ elim (holding less x ys) as (λ b. suc (cond b (length ys) (suc (length ys))) ≡ cond b (suc (length ys)) (suc (suc (length ys)))) [ true ↦ refl | false ↦ refl ]
        | false ↦ elim (less x y) as (λ b. length (cond b (x ∷ (y ∷ ys)) (y ∷ ys)) ≡ cond (not b) (suc (length ys)) (suc (suc (length ys)))) [ true ↦ refl | false ↦ refl ]
      ]

  pub length_excluding : (x : X) (xs : List X) → holding less x xs ≡ true → suc (length (excluding less x xs)) ≡ length xs
  length_excluding x [] h = absurd (both_ways false refl h)
  length_excluding x (y ∷ ys) h =
      elim (less y x) as (λ b. cond b (holding less x ys) (not (less x y)) ≡ true → suc (length (cond b (y ∷ excluding less x ys) (cond (less x y) (y ∷ ys) ys))) ≡ suc (length ys)) [
        | true ↦ λ k. ap suc (length_excluding x ys k)
        | false ↦ λ k. ap (λ b. suc (length (cond b (y ∷ ys) ys))) (not-true (less x y) k)
      ]
      h

  pub length_excluding_le : (x : X) (xs : List X) → length (excluding less x xs) ≤ length xs
  length_excluding_le x [] = omega arith
  length_excluding_le x (y ∷ ys) =
      elim (less y x) as (λ b. length (cond b (y ∷ excluding less x ys) (cond (less x y) (y ∷ ys) ys)) ≤ suc (length ys)) [
        | true ↦ omega (arith, length_excluding_le x ys)
        | false ↦ elim (less x y) as (λ b. length (cond b (y ∷ ys) ys) ≤ suc (length ys)) [ true ↦ omega arith | false ↦ omega arith ]
      ]

module _ {X : Type 0} (less : X → X → Bool) (irreflexive : (x : X) → less x x ≡ false) (transitive : (x y z : X) → less x y ≡ true → less y z ≡ true → less x z ≡ true) (total : (x y : X) → less x y ≡ false → less y x ≡ false → x ≡ y) where
  pub same_refl : (x : X) → same less x x ≡ true
  same_refl x = and_from _ _ (not_from_false _ (irreflexive x)) (not_from_false _ (irreflexive x))

  pub same_is : (x y : X) → same less x y ≡ true → x ≡ y
  same_is x y h = let p = and_parts _ _ h in total x y (not-true _ p.0) (not-true _ p.1)

  below_trans : (x y : X) (zs : List X) → less x y ≡ true → below less y zs ≡ true → below less x zs ≡ true
  below_trans x y [] l h = refl
  below_trans x y (z ∷ zs) l h = let p = and_parts _ _ h in and_from _ _ (transitive x y z l p.0) (below_trans x y zs l p.1)

  pub absent : (x : X) (ys : List X) → below less x ys ≡ true → member less x ys ≡ false
  absent x [] h = refl
  absent x (y ∷ ys) h = let p = and_parts _ _ h in or_from _ _ (and_left _ _ (not_from_true _ p.0)) (absent x ys p.1)

  below_including : (y x : X) (zs : List X) → less y x ≡ true → below less y zs ≡ true → below less y (including less x zs) ≡ true
  below_including y x [] l h = and_from _ _ l refl
  below_including y x (z ∷ zs) l h =
      let p = and_parts _ _ h in
      elim (less z x) as (λ b. below less y (cond b (z ∷ including less x zs) (cond (less x z) (x ∷ (z ∷ zs)) (z ∷ zs))) ≡ true) [
        | true ↦ and_from _ _ p.0 (below_including y x zs l p.1)
        | false ↦ elim (less x z) as (λ b. below less y (cond b (x ∷ (z ∷ zs)) (z ∷ zs)) ≡ true) [ true ↦ and_from _ _ l h | false ↦ h ]
      ]

  pub rising_including : (x : X) (zs : List X) → rising less zs ≡ true → rising less (including less x zs) ≡ true
  rising_including x [] h = refl
  rising_including x (z ∷ zs) h =
      let p = and_parts _ _ h in
      elim (less z x) as (λ b. less z x ≡ b → rising less (cond b (z ∷ including less x zs) (cond (less x z) (x ∷ (z ∷ zs)) (z ∷ zs))) ≡ true) [
        | true ↦ λ e. and_from _ _ (below_including z x zs e p.0) (rising_including x zs p.1)
        | false ↦ λ e. elim (less x z) as (λ b. less x z ≡ b → rising less (cond b (x ∷ (z ∷ zs)) (z ∷ zs)) ≡ true) [ true ↦ λ f. and_from _ _ (and_from _ _ f (below_trans x z zs f p.0)) h | false ↦ λ f. h ] refl
      ]
      refl

  below_excluding : (y x : X) (zs : List X) → below less y zs ≡ true → below less y (excluding less x zs) ≡ true
  below_excluding y x [] h = refl
  below_excluding y x (z ∷ zs) h =
      let p = and_parts _ _ h in
      elim (less z x) as (λ b. below less y (cond b (z ∷ excluding less x zs) (cond (less x z) (z ∷ zs) zs)) ≡ true) [
        | true ↦ and_from _ _ p.0 (below_excluding y x zs p.1)
        | false ↦ elim (less x z) as (λ b. below less y (cond b (z ∷ zs) zs) ≡ true) [ true ↦ h | false ↦ p.1 ]
      ]

  pub rising_excluding : (x : X) (zs : List X) → rising less zs ≡ true → rising less (excluding less x zs) ≡ true
  rising_excluding x [] h = refl
  rising_excluding x (z ∷ zs) h =
      let p = and_parts _ _ h in
      elim (less z x) as (λ b. rising less (cond b (z ∷ excluding less x zs) (cond (less x z) (z ∷ zs) zs)) ≡ true) [
        | true ↦ and_from _ _ (below_excluding z x zs p.0) (rising_excluding x zs p.1)
        | false ↦ elim (less x z) as (λ b. rising less (cond b (z ∷ zs) zs) ≡ true) [ true ↦ h | false ↦ p.1 ]
      ]

  pub holding_member : (x : X) (ys : List X) → rising less ys ≡ true → holding less x ys ≡ member less x ys
  holding_member x [] h = refl
  holding_member x (y ∷ ys) h =
      let p = and_parts _ _ h in
      elim (less y x) as (λ b. less y x ≡ b → cond b (holding less x ys) (not (less x y)) ≡ ((not (less x y) && not b) || member less x ys)) [
        | true ↦ λ e. holding_member x ys p.1 ∙ ap (λ q. q || member less x ys) (sym (and-false (not (less x y))))
        | false ↦ λ e. elim (less x y) as (λ b. less x y ≡ b → not b ≡ ((not b && true) || member less x ys)) [ true ↦ λ f. sym (absent x ys (below_trans x y ys f p.0)) | false ↦ λ f. refl ] refl
      ]
      refl

  pub member_including : (z x : X) (ys : List X) → member less z (including less x ys) ≡ (same less z x || member less z ys)
  member_including z x [] = refl
  member_including z x (y ∷ ys) =
      elim (less y x) as (λ b. less y x ≡ b → member less z (cond b (y ∷ including less x ys) (cond (less x y) (x ∷ (y ∷ ys)) (y ∷ ys))) ≡ (same less z x || (same less z y || member less z ys))) [
        | true ↦ λ e. ap (λ q. same less z y || q) (member_including z x ys) ∙ or_swap (same less z y) (same less z x) (member less z ys)
        | false ↦ λ e. elim (less x y) as (λ b. less x y ≡ b → member less z (cond b (x ∷ (y ∷ ys)) (y ∷ ys)) ≡ (same less z x || (same less z y || member less z ys))) [
          | true ↦ λ f. refl
          | false ↦ λ f. sym (or_self_left (same less z y) (member less z ys)) ∙ ap (λ v. same less z v || (same less z y || member less z ys)) (total y x e f)
        ]
            refl
      ]
      refl

  pub member_excluding : (z x : X) (ys : List X) → rising less ys ≡ true → member less z (excluding less x ys) ≡ (not (same less z x) && member less z ys)
  member_excluding z x [] h = sym (and-false (not (same less z x)))
  member_excluding z x (y ∷ ys) h =
      let p = and_parts _ _ h in
      elim (less y x) as (λ b. less y x ≡ b → member less z (cond b (y ∷ excluding less x ys) (cond (less x y) (y ∷ ys) ys)) ≡ (not (same less z x) && (same less z y || member less z ys))) [
        | true ↦ λ e. ap (λ q. same less z y || q) (member_excluding z x ys p.1)
            ∙ skip_other (same less z x) (same less z y) (member less z ys) (λ t. and_left _ _ (not_from_true _ (ap (λ v. less v x) (same_is z y t) ∙ e)))
        | false ↦ λ e. elim (less x y) as (λ b. less x y ≡ b → member less z (cond b (y ∷ ys) ys) ≡ (not (same less z x) && (same less z y || member less z ys))) [
          | true ↦ λ f. skip_none (same less z x) (member less z (y ∷ ys)) (λ t. ap (λ v. member less v (y ∷ ys)) (same_is z x t) ∙ absent x (y ∷ ys) (and_from _ _ f (below_trans x y ys f p.0)))
          | false ↦ λ f. skip_this (same less z x) (member less z ys) (λ t. ap (λ v. member less v ys) (same_is z x t ∙ total x y f e) ∙ absent y ys p.0) ∙ ap (λ v. not (same less z x) && (same less z v || member less z ys)) (total x y f e)
        ]
            refl
      ]
      refl

  -- two ascending lists with the same members are one
  pub same_set : (xs ys : List X) → rising less xs ≡ true → rising less ys ≡ true → ((z : X) → member less z xs ≡ member less z ys) → xs ≡ ys
  same_set [] [] h k e = refl
  same_set [] (y ∷ ys) h k e = absurd (both_ways false refl (e y ∙ or_left _ _ (same_refl y)))
  same_set (x ∷ xs) [] h k e = absurd (both_ways false refl (sym (e x) ∙ or_left _ _ (same_refl x)))
  same_set (x ∷ xs) (y ∷ ys) h k e =
      let p = and_parts _ _ h in
      let q = and_parts _ _ k in
      let not-before : less x y ≡ false = elim (less x y) as (λ b. less x y ≡ b → b ≡ false) [ true ↦ λ f. absurd (both_ways _ (e x ∙ absent x (y ∷ ys) (and_from _ _ f (below_trans x y ys f q.0))) (or_left _ _ (same_refl x))) | false ↦ λ f. refl ] refl in
      let not_after : less y x ≡ false = elim (less y x) as (λ b. less y x ≡ b → b ≡ false) [ true ↦ λ f. absurd (both_ways _ (sym (e y) ∙ absent y (x ∷ xs) (and_from _ _ f (below_trans y x xs f p.0))) (or_left _ _ (same_refl y))) | false ↦ λ f. refl ] refl in
      let one = total x y not-before not_after in
      let rest : (z : X) → member less z xs ≡ member less z ys =
      λ z. tails (same less z x) (member less z xs) (member less z ys)
      (λ t. ap (λ v. member less v xs) (same_is z x t) ∙ absent x xs p.0)
      (λ t. ap (λ v. member less v ys) (same_is z x t ∙ one) ∙ absent y ys q.0)
      (e z ∙ ap (λ v. same less z v || member less z ys) (sym one)) in
      ap (λ v. v ∷ xs) one ∙ ap (λ l. y ∷ l) (same_set xs ys p.1 q.1 rest)

  pub rising_union : (xs ys : List X) → rising less ys ≡ true → rising less (union less xs ys) ≡ true
  rising_union [] ys h = h
  rising_union (x ∷ xs) ys h = rising_including x (union less xs ys) (rising_union xs ys h)

  pub member_union : (z : X) (xs ys : List X) → member less z (union less xs ys) ≡ (member less z xs || member less z ys)
  member_union z [] ys = refl
  member_union z (x ∷ xs) ys = member_including z x (union less xs ys) ∙ ap (λ q. same less z x || q) (member_union z xs ys) ∙ sym (or_assoc (same less z x) (member less z xs) (member less z ys))

  pub member_decides : (x : X) (ys : List X) → Decides (member less x ys) (x ∈ ys)
  member_decides x [] = ((λ m. absurd (both_ways false refl m)), (λ m. absurd m))
  member_decides x (y ∷ ys) =
      Decides-or (same less x y) (member less x ys)
      ((λ s. same_is x y s), (λ e. ap (same less x) (sym e) ∙ same_refl x))
      (member_decides x ys)

  pub holding_decides : (x : X) (ys : List X) → rising less ys ≡ true → Decides (holding less x ys) (x ∈ ys)
  holding_decides x ys h = Decides-at _ _ (holding_member x ys h) (member_decides x ys)

  pub in_including : (z x : X) (ys : List X) → z ∈ including less x ys ↔ ((z ∈ ys) ⊎ (z ≡ x))
  in_including z x ys =
      let there = member_decides z (including less x ys) in (
        (λ m. elim (or_cases _ _ (sym (member_including z x ys) ∙ there.1 m)) [ inl s ↦ inr (same_is z x s) | inr n ↦ inl ((member_decides z ys).0 n) ]),
        (λ m. there.0 (member_including z x ys ∙ elim m [ inl n ↦ or_right _ _ ((member_decides z ys).1 n) | inr e ↦ or_left _ _ (ap (same less z) (sym e) ∙ same_refl z) ])),
      )

  pub in_excluding : (z x : X) (ys : List X) → rising less ys ≡ true → z ∈ excluding less x ys ↔ ((z ∈ ys) × (z ≡ x → ⊥))
  in_excluding z x ys h =
      let there = member_decides z (excluding less x ys) in (
        (λ m. let p = and_parts _ _ (sym (member_excluding z x ys h) ∙ there.1 m) in
            ((member_decides z ys).0 p.1, λ e. both_ways _ (not-true _ p.0) (ap (same less z) (sym e) ∙ same_refl z))),
        (λ m. there.0 (member_excluding z x ys h ∙ and_from _ _ (elim (same less z x) as (λ b. same less z x ≡ b → not b ≡ true) [ true ↦ λ s. absurd (m.1 (same_is z x s)) | false ↦ λ s. refl ] refl) ((member_decides z ys).1 m.0))),
      )

  below_in : (y z : X) (ys : List X) → below less y ys ≡ true → z ∈ ys → less z y ≡ false
  below_in y z [] h m = absurd m
  below_in y z (w ∷ ys) h m =
      let p = and_parts _ _ h in
      let apart : less w y ≡ false = elim (less w y) as (λ b. less w y ≡ b → b ≡ false) [ true ↦ λ f. sym (transitive y w y p.0 f) ∙ irreflexive y | false ↦ λ f. refl ] refl in
      elim m [ inl e ↦ ap (λ v. less v y) e ∙ apart | inr n ↦ below_in y z ys p.1 n ]

  such_here : (P : X → Type 0) (y : X) (ys : List X) → below less y ys ≡ true → P y → LeastSuch less P (y ∷ ys) (Some y)
  such_here P y ys h o = (
    inl refl,
    o,
    λ z m k. elim m [ inl e ↦ ap (λ v. less v y) e ∙ irreflexive y | inr n ↦ below_in y z ys h n ],
  )

  such_skip : (P : X → Type 0) (y : X) (ys : List X) (r : Option X) → (P y → ⊥) → LeastSuch less P ys r → LeastSuch less P (y ∷ ys) r
  such_skip P y ys None o h = λ z m k. elim m [ inl e ↦ o (subst P e k) | inr n ↦ h z n k ]
  such_skip P y ys (Some w) o h = (
    inr h.0,
    h.1,
    λ z m k. elim m [ inl e ↦ absurd (o (subst P e k)) | inr n ↦ h.2 z n k ],
  )

  -- the first of an ascending list that passes is the least of those that do
  pub first_such : (test : X → Bool) (ys : List X) → rising less ys ≡ true → LeastSuch less (λ z. test z ≡ true) ys (find test ys)
  first_such test [] h = λ z m k. m
  first_such test (y ∷ ys) h =
      let p = and_parts _ _ h in
      elim (test y) as (λ b. test y ≡ b → LeastSuch less (λ z. test z ≡ true) (y ∷ ys) (cond b (Some y) (find test ys))) [
        | true ↦ λ e. such_here (λ z. test z ≡ true) y ys p.0 e
        | false ↦ λ e. such_skip (λ z. test z ≡ true) y ys (find test ys) (both_ways _ e) (first_such test ys p.1)
      ]
      refl

  pub following_such : (x : X) (ys : List X) → rising less ys ≡ true → LeastSuch less (Above less (Some x)) ys (following less x ys)
  following_such x = first_such (less x)

  pub leading_such : (ys : List X) → rising less ys ≡ true → LeastSuch less (Above less None) ys (leading ys)
  leading_such [] h = λ z m k. m
  leading_such (y ∷ ys) h = such_here (Above less None) y ys (and_parts _ _ h).0 tt

  -- the same by tests
  pub least_by_test : (ok : X → Bool) (P : X → Type 0) → ((z : X) → Decides (ok z) (P z)) → (ys : List X) (r : Option X) → LeastSuch less P ys r → Least less ok ys r
  least_by_test ok P d ys None h = λ z m. false_from_ne_true (ok z) (λ o. h z ((member_decides z ys).0 m) ((d z).0 o))
  least_by_test ok P d ys (Some y) h = (
    (member_decides y ys).1 h.0,
    (d y).1 h.1,
    λ z m o. h.2 z ((member_decides z ys).0 m) ((d z).0 o),
  )

  pub following_least : (x : X) (ys : List X) → rising less ys ≡ true → Least less (less x) ys (following less x ys)
  following_least x ys h = least_by_test (less x) (Above less (Some x)) (λ z. ((λ e. e), (λ e. e))) ys (following less x ys) (following_such x ys h)

  pub leading_least : (ys : List X) → rising less ys ≡ true → Least less (λ z. true) ys (leading ys)
  leading_least ys h = least_by_test (λ z. true) (Above less None) (λ z. ((λ e. tt), (λ k. refl))) ys (leading ys) (leading_such ys h)
