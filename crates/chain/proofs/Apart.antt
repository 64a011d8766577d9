-- Lists of places in which none stands twice. Assumes nothing.
use Rattle.std.proofs.Common.{◌≡◌, ℕ, ◌⊎◌, ◌↔◌, List, [], ◌∷◌, ◌++◌, sym, subst, inl, inr, append_assoc}
use Rattle.ordered.specs.Ascending.{◌∈◌}
use Rattle.chain.specs.Walk.{Distinct}

pub in_left : (x : ℕ) (xs ys : List ℕ) → x ∈ xs → x ∈ (xs ++ ys)
in_left x [] ys m = absurd m
in_left x (y ∷ xs) ys m = elim m [ inl e ↦ inl e | inr n ↦ inr (in_left x xs ys n) ]

pub in_right : (x : ℕ) (xs ys : List ℕ) → x ∈ ys → x ∈ (xs ++ ys)
in_right x [] ys m = m
in_right x (y ∷ xs) ys m = inr (in_right x xs ys m)

-- a list's two parts have no place in common, and none of them has one twice
pub record Parts (xs ys : List ℕ) : Type 0 where
  pub front : Distinct xs
  pub back : Distinct ys
  pub apart : (p : ℕ) → p ∈ xs → p ∈ ys → ⊥

pub parts : (xs ys : List ℕ) → Distinct (xs ++ ys) → Parts xs ys
parts [] ys h = record { front = tt; back = h; apart = λ p m n. m }
parts (x ∷ xs) ys h =
    let rest = parts xs ys h.1 in
    record {
      front = (λ m. h.0 (in_left x xs ys m), rest.front);
      back = rest.back;
      apart = λ p m n. elim m [ inl e ↦ h.0 (in_right x xs ys (subst (λ (q : ℕ). q ∈ ys) e n)) | inr i ↦ rest.apart p i n ];
    }

-- the second list is the first with f put in somewhere
pub record With (f : ℕ) (xs ys : List ℕ) : Type 0 where
  pub each : (p : ℕ) → p ∈ ys ↔ ((p ≡ f) ⊎ p ∈ xs)
  pub once : Distinct ys ↔ ((f ∈ xs → ⊥) × Distinct xs)

pub with_between : (f : ℕ) (xs ys : List ℕ) → With f (xs ++ ys) (xs ++ f ∷ ys)
with_between f [] ys = record { each = λ p. ((λ m. m), (λ m. m)); once = ((λ h. h), (λ h. h)) }
with_between f (x ∷ xs) ys =
    let rest = with_between f xs ys in
    record {
      each = λ p. (
        (λ m. elim m [ inl e ↦ inr (inl e) | inr n ↦ elim ((rest.each p).0 n) [ inl e ↦ inl e | inr i ↦ inr (inr i) ] ]),
        (λ m. elim m [ inl e ↦ inr ((rest.each p).1 (inl e)) | inr n ↦ elim n [ inl e ↦ inl e | inr i ↦ inr ((rest.each p).1 (inr i)) ] ]),
      );
      once = (
        (λ h. let tail = rest.once.0 h.1 in (
          λ m. elim m [ inl e ↦ h.0 ((rest.each x).1 (inl (sym e))) | inr n ↦ tail.0 n ],
          (λ m. h.0 ((rest.each x).1 (inr m)), tail.1),
        )),
        (λ h. (
          λ m. elim ((rest.each x).0 m) [ inl e ↦ h.0 (inl (sym e)) | inr n ↦ h.1.0 n ],
          rest.once.1 (λ m. h.0 (inr m), h.1.1),
        )),
      );
    }

pub with_inside : (f : ℕ) (xs ys zs : List ℕ) → With f ((xs ++ ys) ++ zs) ((xs ++ f ∷ ys) ++ zs)
with_inside f xs ys zs =
    subst (With f ((xs ++ ys) ++ zs)) (sym (append_assoc xs (f ∷ ys) zs))
    (subst (λ (l : List ℕ). With f l (xs ++ f ∷ (ys ++ zs))) (sym (append_assoc xs ys zs)) (with_between f xs (ys ++ zs)))
