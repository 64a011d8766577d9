-- A duty that stays in a chain stays in its row. Assumes nothing.
use Rattle.std.proofs.Common.{◌≡◌, ℕ, true, ◌⊎◌, List, [], ◌∷◌, sym, refl, ap, ◌∙◌, subst, inl, inr}
use Rattle.std.proofs.lemmas.Bool.{both_ways, and_parts}
use Rattle.ordered.specs.Ascending.{◌∈◌, below, rising}
use Rattle.duties.specs.Duties.{before}
use Rattle.duties.specs.declared.duty.Duty.{Duty}
use Rattle.duties.specs.DutyLaws.{before_irreflexive}
use Rattle.chain.specs.Walk.{row_at, duties_at, used, chained, Linked, NoRowMoves}
use Rattle.chain.specs.declared.link.Ends.{Ends}
use Rattle.chain.specs.declared.link.Link.{Link}

module _ (rows : List Link) where
  in_duties : (p : ℕ) (ps : List ℕ) → p ∈ ps → (row_at rows p).duty ∈ duties_at rows ps
  in_duties p [] m = absurd m
  in_duties p (x ∷ ps) m = elim m [ inl e ↦ inl (ap (λ (q : ℕ). (row_at rows q).duty) e) | inr n ↦ inr (in_duties p ps n) ]

  before_each : (d : Duty) (p : ℕ) (ps : List ℕ) → below before d (duties_at rows ps) ≡ true → p ∈ ps → before d (row_at rows p).duty ≡ true
  before_each d p [] h m = absurd m
  before_each d p (x ∷ ps) h m =
      let k = and_parts _ _ h in
      elim m [ inl e ↦ ap (λ (q : ℕ). before d (row_at rows q).duty) e ∙ k.0 | inr n ↦ before_each d p ps k.1 n ]

  other_duty : (d : Duty) (p : ℕ) (ps : List ℕ) → below before d (duties_at rows ps) ≡ true → p ∈ ps → d ≡ (row_at rows p).duty → ⊥
  other_duty d p ps h m e = both_ways _ (before_irreflexive d) (ap (before d) e ∙ before_each d p ps h m)

  -- ascending duties are each in one row
  same_place : (ps : List ℕ) → rising before (duties_at rows ps) ≡ true → (p q : ℕ) → p ∈ ps → q ∈ ps → (row_at rows p).duty ≡ (row_at rows q).duty → p ≡ q
  same_place [] up p q m n e = absurd m
  same_place (x ∷ ps) up p q m n e =
      let k = and_parts _ _ up in
      let duty-at : ℕ → Duty = λ r. (row_at rows r).duty in
      elim m [
        | inl i ↦ elim n [ inl j ↦ i ∙ sym j | inr b ↦ absurd (other_duty (row_at rows x).duty q ps k.0 b (sym (ap duty-at i) ∙ e)) ]
        | inr a ↦ elim n [ inl j ↦ absurd (other_duty (row_at rows x).duty p ps k.0 a (sym (e ∙ ap duty-at j))) | inr b ↦ same_place ps k.1 p q a b e ]
      ]

  -- each row in use after is one that was in use with its duty, or has a duty that was not there
  pub no_row_moves : (rows' : List Link) (e e' : Ends) → Linked rows e
      → ((q : ℕ) → q ∈ used rows' e' → ((q ∈ used rows e) × ((row_at rows' q).duty ≡ (row_at rows q).duty)) ⊎ ((row_at rows' q).duty ∈ chained rows e → ⊥)) → NoRowMoves rows e rows' e'
  no_row_moves rows' e e' k h p q m n same =
      elim (h q n) [
        | inl old ↦ same_place (used rows e) k.lawful.ascending p q m old.0 (same ∙ old.1)
        | inr new ↦ absurd (new (subst (λ (d : Duty). d ∈ chained rows e) same (in_duties p (used rows e) m)))
      ]

-- where nothing is written
pub at_rest : (rows : List Link) (e : Ends) → Linked rows e → NoRowMoves rows e rows e
at_rest rows e k = no_row_moves rows rows e e k (λ q m. inl (m, refl))
