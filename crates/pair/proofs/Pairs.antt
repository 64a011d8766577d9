-- What is done to one register of a pair is done to the pair. Assumes nothing.
use Rattle.std.proofs.Common.{◌≡◌, ℕ, ◌+◌, ◌<◌, ◌≤◌, Bool, true, false, ◌⊎◌, ◌↔◌, List, length, Some, None, Decides, Option, sym, ap, ◌∙◌, subst, inl, inr, arith}
use Rattle.std.proofs.lemmas.Bool.{both_ways, cases_Bool}
use Rattle.std.proofs.lemmas.Bool.Decides.{Decides-like}
use Rattle.std.proofs.Props.{props}
use std.HLevel.{prop→path_p}
use Rattle.ordered.specs.Ascending.{◌∈◌, rising, union, LeastSuch}
use Rattle.ordered.proofs.Sets as sets
use Rattle.ordered.proofs.Unions as unions
use Rattle.duties.specs.Duties.{before}
use Rattle.duties.specs.declared.duty.Duty.{Duty}
use Rattle.duties.specs.DutyLaws.{before_irreflexive, before_transitive, before_total}
use Rattle.ordered.specs.Changes.{Entered, Struck}
use Rattle.pair.specs.Lesser.{lesser}
use Rattle.pair.specs.Parted.{scan, Parted}

in_union : (e : Duty) (xs ys : List Duty) → e ∈ union before xs ys ↔ ((e ∈ xs) ⊎ (e ∈ ys))
in_union = unions.in_union before before_irreflexive before_transitive before_total

in_union_second : (e : Duty) (xs ys : List Duty) → e ∈ union before xs ys ↔ ((e ∈ ys) ⊎ (e ∈ xs))
in_union_second e xs ys = (
  (λ m. elim ((in_union e xs ys).0 m) [ inl a ↦ inr a | inr b ↦ inl b ]),
  (λ m. (in_union e xs ys).1 (elim m [ inl b ↦ inr b | inr a ↦ inl a ])),
)

rising_union : (xs ys : List Duty) → rising before ys ≡ true → rising before (union before xs ys) ≡ true
rising_union = sets.rising_union before before_irreflexive before_transitive before_total

least_lesser : (P : Duty → Type 0) (xs ys : List Duty) (r s : Option Duty) → LeastSuch before P xs r → LeastSuch before P ys s → LeastSuch before P (union before xs ys) (lesser r s)
least_lesser P xs ys None s = unions.least_second before before_irreflexive before_transitive before_total P xs ys s
least_lesser P xs ys (Some d) None = unions.least_first before before_irreflexive before_transitive before_total P xs ys d
least_lesser P xs ys (Some d) (Some e) = unions.least_both before before_irreflexive before_transitive before_total P xs ys d e

pub least_of_parts : (P : Duty → Type 0) (xs ys : List Duty) (r s t : Option Duty) → t ≡ lesser r s → LeastSuch before P xs r → LeastSuch before P ys s → LeastSuch before P (union before xs ys) t
least_of_parts P xs ys r s t e h k = let Is-least : Option Duty → Type 0 = LeastSuch before P (union before xs ys) in subst Is-least (sym e) (least_lesser P xs ys r s h k)

-- A set in two parts: d belongs to `part`, and is not in the rest.
module _ (d : Duty) (part rest set : List Duty) (whole : (e : Duty) → e ∈ set ↔ ((e ∈ part) ⊎ (e ∈ rest))) (apart : d ∈ rest → ⊥) where
  in_part : d ∈ set → d ∈ part
  in_part m = elim ((whole d).0 m) [ inl a ↦ a | inr b ↦ absurd (apart b) ]

  held_part : (r : Bool) → Decides r (d ∈ part) → Decides r (d ∈ set)
  held_part r = Decides-like r (λ m. (whole d).1 (inl m)) in_part

  -- what becomes of the part becomes of the set
  module _ (r : Bool) (part' set' : List Duty) (whole' : (e : Duty) → e ∈ set' ↔ ((e ∈ part') ⊎ (e ∈ rest))) where
    struck_part : Struck d r part part' → Struck d r set set'
    struck_part s = record {
      answer = held_part r s.answer;
      each = λ e. (
        (λ m. elim ((whole' e).0 m) [ inl a ↦ let q = (s.each e).0 a in ((whole e).1 (inl q.0), q.1) | inr b ↦ ((whole e).1 (inr b), λ i. let In : Duty → Type 0 = λ v. v ∈ rest in apart (subst In i b)) ]),
        (λ q. (whole' e).1 (elim ((whole e).0 q.0) [ inl a ↦ inl ((s.each e).1 (a, q.1)) | inr b ↦ inr b ])),
      );
    }

    -- where the set is not full, and the part has no less room
    entered_part : {places room : ℕ} → rising before part ≡ true → rising before set ≡ true → room ≤ places → length set < room → Entered d r part part' places → Entered d r set set' room
    entered_part up on wide within s = record {
      refused = (
        (λ f. let fewer = unions.length_within before before_irreflexive before_transitive before_total part set up on (λ e a. (whole e).1 (inl a)) in absurd (omega (arith, fewer, (s.refused.0 f).1))),
        (λ q. absurd (omega (arith, q.1))),
      );
      each = λ e. (
        (λ m. elim ((whole' e).0 m) [ inl a ↦ elim ((s.each e).0 a) [ inl b ↦ inl ((whole e).1 (inl b)) | inr q ↦ inr q ] | inr b ↦ inl ((whole e).1 (inr b)) ]),
        (λ m. (whole' e).1 (elim m [ inl n ↦ elim ((whole e).0 n) [ inl a ↦ inl ((s.each e).1 (inl a)) | inr b ↦ inr b ] | inr q ↦ inl ((s.each e).1 (inr q)) ])),
      );
    }

module _ (d : Duty) (r : Bool) (set set' : List Duty) (up : rising before set ≡ true) (up' : rising before set' ≡ true) where
  struck_length : Struck d r set set' → length set' ≤ length set
  struck_length s = unions.length_within before before_irreflexive before_transitive before_total set' set up' up (λ e m. ((s.each e).0 m).0)

  entered_length : {room : ℕ} → Entered d r set set' room → length set' ≤ length set + 1
  entered_length s =
      unions.length_one_more before before_irreflexive before_transitive before_total d set' set up' up
      (λ e m. elim ((s.each e).0 m) [ inl a ↦ inr a | inr q ↦ inl q.0 ])

module _ {xs ys : List Duty} {room : ℕ} (p : Parted xs ys room) where
  not_in_second : (d : Duty) → scan d ≡ true → d ∈ ys → ⊥
  not_in_second d h k = both_ways (scan d) (p.others d k) h

  not_in_first : (d : Duty) → scan d ≡ false → d ∈ xs → ⊥
  not_in_first d h k = both_ways (scan d) h (p.scans d k)

  pub size : rising before xs ≡ true → rising before ys ≡ true → length (union before xs ys) ≡ length xs + length ys
  size up on = unions.length_union before before_irreflexive before_transitive before_total xs ys up on (λ e a. not_in_second e (p.scans e a))

  pub in_first : (d : Duty) → scan d ≡ true → d ∈ union before xs ys → d ∈ xs
  in_first d h = in_part d xs ys (union before xs ys) (λ e. in_union e xs ys) (not_in_second d h)

  pub in_second : (d : Duty) → scan d ≡ false → d ∈ union before xs ys → d ∈ ys
  in_second d h = in_part d ys xs (union before xs ys) (λ e. in_union_second e xs ys) (not_in_first d h)

  -- the part that d belongs to answers for both
  pub held_by_parts : (d : Duty) (r : Bool) → (scan d ≡ true → Decides r (d ∈ xs)) → (scan d ≡ false → Decides r (d ∈ ys)) → Decides r (d ∈ union before xs ys)
  held_by_parts d r first second =
      elim (cases_Bool (scan d)) [
        | inl h ↦ held_part d xs ys (union before xs ys) (λ e. in_union e xs ys) (not_in_second d h) r (first h)
        | inr h ↦ held_part d ys xs (union before xs ys) (λ e. in_union_second e xs ys) (not_in_first d h) r (second h)
      ]

  -- the parts stay parted where they have what belongs to them, the room is the same and the set fits
  stays_parted : {xs' ys' : List Duty} {room' : ℕ} → ((e : Duty) → e ∈ xs' → scan e ≡ true) → ((e : Duty) → e ∈ ys' → scan e ≡ false) → rising before ys' ≡ true → room' ≡ room → length (union before xs' ys') ≤ room → Parted xs' ys' room'
  stays_parted {xs' = xs'} {ys' = ys'} scans others on same fits = record {
    scans = scans;
    others = others;
    lawful = record { ascending = rising_union xs' ys' on; fits = omega arith; small = omega (arith, p.lawful.small) };
  }

  -- the first is changed, or the second: what becomes of the set, and that the parts stay parted
  module _ (d : Duty) (r : Bool) (h : scan d ≡ true) (xs' : List Duty) where
    pub strikes_first : Struck d r xs xs' → Struck d r (union before xs ys) (union before xs' ys)
    strikes_first = struck_part d xs ys (union before xs ys) (λ e. in_union e xs ys) (not_in_second d h) r xs' (union before xs' ys) (λ e. in_union e xs' ys)

    pub enters_first : {places : ℕ} → room ≤ places → rising before xs ≡ true → length (union before xs ys) < room → Entered d r xs xs' places → Entered d r (union before xs ys) (union before xs' ys) room
    enters_first wide up within =
        entered_part d xs ys (union before xs ys) (λ e. in_union e xs ys) (not_in_second d h) r xs' (union before xs' ys) (λ e. in_union e xs' ys) up p.lawful.ascending wide within

    module _ {room' : ℕ} (same : room' ≡ room) (on : rising before ys ≡ true) where
      pub first_struck : Struck d r xs xs' → Parted xs' ys room'
      first_struck k =
          let fewer = struck_length d r (union before xs ys) (union before xs' ys) p.lawful.ascending (rising_union xs' ys on) (strikes_first k) in
          stays_parted (λ e a. p.scans e ((k.each e).0 a).0) p.others on same (omega (arith, fewer, p.lawful.fits))

      pub first_entered : {places : ℕ} → room ≤ places → rising before xs ≡ true → length (union before xs ys) < room → Entered d r xs xs' places → Parted xs' ys room'
      first_entered wide up within k =
          let one_more = entered_length d r (union before xs ys) (union before xs' ys) p.lawful.ascending (rising_union xs' ys on) (enters_first wide up within k) in
          stays_parted (λ e a. elim ((k.each e).0 a) [ inl b ↦ p.scans e b | inr q ↦ ap scan q.0 ∙ h ]) p.others on same (omega (arith, one_more))

  module _ (d : Duty) (r : Bool) (h : scan d ≡ false) (ys' : List Duty) where
    pub strikes_second : Struck d r ys ys' → Struck d r (union before xs ys) (union before xs ys')
    strikes_second = struck_part d ys xs (union before xs ys) (λ e. in_union_second e xs ys) (not_in_first d h) r ys' (union before xs ys') (λ e. in_union_second e xs ys')

    pub enters_second : {places : ℕ} → room ≤ places → rising before ys ≡ true → length (union before xs ys) < room → Entered d r ys ys' places → Entered d r (union before xs ys) (union before xs ys') room
    enters_second wide up within =
        entered_part d ys xs (union before xs ys) (λ e. in_union_second e xs ys) (not_in_first d h) r ys' (union before xs ys') (λ e. in_union_second e xs ys') up p.lawful.ascending wide within

    module _ {room' : ℕ} (same : room' ≡ room) (on : rising before ys' ≡ true) where
      pub second_struck : Struck d r ys ys' → Parted xs ys' room'
      second_struck k =
          let fewer = struck_length d r (union before xs ys) (union before xs ys') p.lawful.ascending (rising_union xs ys' on) (strikes_second k) in
          stays_parted p.scans (λ e a. p.others e ((k.each e).0 a).0) on same (omega (arith, fewer, p.lawful.fits))

      pub second_entered : {places : ℕ} → room ≤ places → rising before ys ≡ true → length (union before xs ys) < room → Entered d r ys ys' places → Parted xs ys' room'
      second_entered wide up within k =
          let one_more = entered_length d r (union before xs ys) (union before xs ys') p.lawful.ascending (rising_union xs ys' on) (enters_second wide up within k) in
          stays_parted p.scans (λ e a. elim ((k.each e).0 a) [ inl b ↦ p.others e b | inr q ↦ ap scan q.0 ∙ h ]) on same (omega (arith, one_more))

-- that parts are parted has one proof, so pairs of equal parts are equal
pub same_pair : {X P : Type 0} (xs ys : X → List Duty) (room : X → ℕ) (pair : (v : X) → Parted (xs v) (ys v) (room v) → P) {x y : X} → x ≡ y → (p : Parted (xs x) (ys x) (room x)) (q : Parted (xs y) (ys y) (room y)) → pair x p ≡ pair y q
same_pair xs ys room pair {y = y} e p q =
    let one : IsProp (Parted (xs y) (ys y) (room y)) = hlevel props in
    λ i. pair (e i) (prop→path_p (λ j. Parted (xs (e j)) (ys (e j)) (room (e j))) one p q i)
