-- Sets of one duty and of none. Assumes nothing.
use Rattle.std.proofs.Common.{◌≡◌, ℕ, ◌<◌, Bool, true, false, ◌↔◌, List, [], ◌∷◌, length, is_some, Some, None, Option, sym, refl, ap, ◌∙◌, subst, inl, inr, arith}
use Rattle.std.proofs.lemmas.Bool.{both_ways, and_parts}
use Rattle.ordered.specs.Ascending.{◌∈◌, rising, Above, LeastSuch}
use Rattle.duties.specs.Duties.{before}
use Rattle.duties.specs.declared.duty.Duty.{Duty}
use Rattle.ordered.specs.Changes.{Entered, Struck}
use Rattle.duties.specs.DutyLaws.{before_irreflexive}

pub none : (ds : List Duty) → ((e : Duty) → e ∈ ds → ⊥) → ds ≡ []
none [] h = refl
none (x ∷ ds) h = absurd (h x (inl refl))

pub single : (d : Duty) (ds : List Duty) → rising before ds ≡ true → ((e : Duty) → e ∈ ds ↔ (e ≡ d)) → ds ≡ d ∷ []
single d [] up h = absurd ((h d).1 refl)
single d (x ∷ []) up h = ap (λ e. e ∷ []) ((h x).0 (inl refl))
single d (x ∷ (y ∷ ds)) up h =
    let x-is = (h x).0 (inl refl) in
    let y-is = (h y).0 (inr (inl refl)) in
    let less = (and_parts _ _ (and_parts _ _ up).0).0 in
    absurd (both_ways _ (before_irreflexive x) (ap (before x) (x-is ∙ sym y-is) ∙ less))

module _ (d : Duty) (r : Bool) (ds ds' : List Duty) where
  -- an empty register with room takes a duty
  pub took : (room : ℕ) → ds ≡ [] → 0 < room → Entered d r ds ds' room → r ≡ true
  took room e h k = elim r as (λ b. r ≡ b → b ≡ true) [ true ↦ λ _. refl | false ↦ λ f. absurd (omega (arith, ap length e, (k.refused.0 f).1)) ] refl

  pub alone : (room : ℕ) → ds ≡ [] → 0 < room → Entered d r ds ds' room → rising before ds' ≡ true → ds' ≡ d ∷ []
  alone room e h k up =
      single d ds' up (λ z. ((λ m. elim ((k.each z).0 m) [ inl n ↦ absurd (subst (λ l. z ∈ l) e n) | inr p ↦ p.0 ]), (λ i. (k.each z).1 (inr (i, took room e h k)))))

  -- a register with one duty gives it back
  pub gave : ds ≡ d ∷ [] → Struck d r ds ds' → (r ≡ true) × (ds' ≡ [])
  gave e k = (
    k.answer.1 (subst (λ l. d ∈ l) (sym e) (inl refl)),
    none ds' (λ z m. let p = (k.each z).0 m in elim (subst (λ l. z ∈ l) e p.0) [ inl i ↦ p.1 i | inr x ↦ x ]),
  )

pub none_after : (ds : List Duty) (r : Option Duty) → ds ≡ [] → LeastSuch before (Above before None) ds r → is_some r ≡ false
none_after ds None e h = refl
none_after ds (Some y) e h = absurd (subst (λ l. y ∈ l) e h.0)
