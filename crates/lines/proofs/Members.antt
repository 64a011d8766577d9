-- The members of lists, and lists of names with no two alike. Assumes nothing.
use Rattle.std.proofs.Common.{◌≡◌, Bool, true, false, not, ◌&&◌, ◌||◌, List, [], ◌∷◌, ◌++◌, sym, refl, ap, ◌∙◌, append_assoc, append-nil}
use Rattle.std.proofs.lemmas.Bool.{and_from, and_parts, not_from_false, not-true, or_from, or_parts}
use Rattle.names.specs.declared.name.Name.{Name}
use Rattle.names.specs.Names.{name_before}
use Rattle.ordered.specs.Ascending.{member, same}
use Rattle.sheets.specs.Sheets.{apart}

or_swap : (a b c : Bool) → (a || (b || c)) ≡ (b || (a || c))
or_swap true true c = refl
or_swap true false c = refl
or_swap false b c = refl

and_swap : (a b : Bool) → (a && b) ≡ (b && a)
and_swap true true = refl
and_swap true false = refl
and_swap false true = refl
and_swap false false = refl

module _ {X : Type 0} (less : X → X → Bool) where
  -- one more member, wherever it stands
  pub member_between : (z n : X) (xs ys : List X) → member less z (xs ++ (n ∷ ys)) ≡ (same less z n || member less z (xs ++ ys))
  member_between z n [] ys = refl
  member_between z n (x ∷ xs) ys = ap (λ q. same less z x || q) (member_between z n xs ys) ∙ or_swap (same less z x) (same less z n) (member less z (xs ++ ys))

  pub member_first : (z n : X) (xs ys : List X) → member less z ((xs ++ (n ∷ [])) ++ ys) ≡ (same less z n || member less z (xs ++ ys))
  member_first z n xs ys = ap (member less z) (append_assoc xs (n ∷ []) ys) ∙ member_between z n xs ys

  pub member_last : (z n : X) (xs ys : List X) → member less z (xs ++ (ys ++ (n ∷ []))) ≡ (same less z n || member less z (xs ++ ys))
  member_last z n xs ys =
      ap (member less z) (sym (append_assoc xs ys (n ∷ [])))
      ∙ member_between z n (xs ++ ys) []
      ∙ ap (λ l. same less z n || member less z l) (append-nil (xs ++ ys))

-- a name that is not in the list can be put anywhere into it
apart_between : (n : Name) (xs ys : List Name) → apart (xs ++ ys) ≡ true → member name_before n (xs ++ ys) ≡ false → apart (xs ++ (n ∷ ys)) ≡ true
apart_between n [] ys h new = and_from _ _ (not_from_false _ new) h
apart_between n (x ∷ xs) ys h new =
    let p = and_parts _ _ h in
    let q = or_parts (same name_before n x) (member name_before n (xs ++ ys)) new in
    let other : same name_before x n ≡ false = and_swap (not (name_before x n)) (not (name_before n x)) ∙ q.0 in
    let absent : member name_before x (xs ++ (n ∷ ys)) ≡ false = member_between name_before x n xs ys ∙ or_from _ _ other (not-true _ p.0) in
    and_from _ _ (not_from_false _ absent) (apart_between n xs ys p.1 q.1)

pub apart_first : (n : Name) (xs ys : List Name) → apart (xs ++ ys) ≡ true → member name_before n (xs ++ ys) ≡ false → apart ((xs ++ (n ∷ [])) ++ ys) ≡ true
apart_first n xs ys h new = ap apart (append_assoc xs (n ∷ []) ys) ∙ apart_between n xs ys h new

pub apart_last : (n : Name) (xs ys : List Name) → apart (xs ++ ys) ≡ true → member name_before n (xs ++ ys) ≡ false → apart (xs ++ (ys ++ (n ∷ []))) ≡ true
apart_last n xs ys h new =
    let all = append-nil (xs ++ ys) in
    ap apart (sym (append_assoc xs ys (n ∷ []))) ∙ apart_between n (xs ++ ys) [] (ap apart all ∙ h) (ap (member name_before n) all ∙ new)
