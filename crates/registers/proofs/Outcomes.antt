-- The meaning of a register's calls leaves them one outcome. Assumes nothing.
use Rattle.std.proofs.Common.{◌≡◌, Bool, true, false, ◌↔◌, List, Some, None, Option, sym, refl, ap, ◌∙◌, inl, inr}
use Rattle.std.proofs.lemmas.Bool.{both_ways}
use Rattle.std.proofs.lemmas.Bool.Decides.{same_from_decides, Decides-like}
use Rattle.ordered.specs.Ascending.{Above, LeastSuch}
use Rattle.ordered.proofs.Sets.{same_set, member_decides}
use Rattle.duties.specs.Duties.{before}
use Rattle.duties.specs.declared.duty.Duty.{Duty}
use Rattle.duties.specs.DutyLaws.{before_irreflexive, before_transitive, before_total}
use Rattle.registers.specs.Determined.{CallsHaveOneOutcome, MembersMakeTheSet}

pub members_make_the_set_lem : MembersMakeTheSet
members_make_the_set_lem set set' room room' k k' same =
    same_set before before_irreflexive before_transitive before_total set set' k.ascending k'.ascending
    (λ d. same_from_decides _ _ (Decides-like _ (same d).0 (same d).1 (member_decides before before_irreflexive before_transitive before_total d set)) (member_decides before before_irreflexive before_transitive before_total d set'))

same_refusal : {P : Type 0} (r s : Bool) → (r ≡ false) ↔ P → (s ≡ false) ↔ P → r ≡ s
same_refusal true true h k = refl
same_refusal true false h k = absurd (both_ways true (h.1 (k.0 refl)) refl)
same_refusal false true h k = absurd (both_ways true (k.1 (h.0 refl)) refl)
same_refusal false false h k = refl

same_least : (P : Duty → Type 0) (r s : Option Duty) (set : List Duty) → LeastSuch before P set r → LeastSuch before P set s → r ≡ s
same_least P None None set h k = refl
same_least P None (Some e) set h k = absurd (h e k.0 k.1)
same_least P (Some d) None set h k = absurd (k d h.0 h.1)
same_least P (Some d) (Some e) set h k = ap Some (before_total d e (k.2 d h.0 h.1) (h.2 e k.0 k.1))

pub calls_have_one_outcome_lem : CallsHaveOneOutcome
calls_have_one_outcome_lem = record {
  enter = λ d r r' set left right room k k' h h'.
      let same = same_refusal r r' h.refused h'.refused in (
        same,
        members_make_the_set_lem left right room room k k' (λ e. (
          (λ m. (h'.each e).1 (elim ((h.each e).0 m) [ inl a ↦ inl a | inr b ↦ inr (b.0, sym same ∙ b.1) ])),
          (λ m. (h.each e).1 (elim ((h'.each e).0 m) [ inl a ↦ inl a | inr b ↦ inr (b.0, same ∙ b.1) ])),
        )),
      );
  strike = λ d r r' set left right room k k' h h'. (
    same_from_decides r r' h.answer h'.answer,
    members_make_the_set_lem left right room room k k' (λ e. ((λ m. (h'.each e).1 ((h.each e).0 m)), (λ m. (h.each e).1 ((h'.each e).0 m)))),
  );
  after = λ from r r' set h h'. same_least (Above before from) r r' set h h';
}
