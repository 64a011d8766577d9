-- The order of duties is total. Assumes nothing.
use Rattle.std.specs.Prelude.{◌≡◌, ℕ, Bool, true, false, ◌⊎◌, ◌≢◌, nat_lt, refl}
use Rattle.std.proofs.Common.{ap, ◌∙◌, inl, inr, arith}
use Rattle.std.proofs.lemmas.Bool.{both_ways}
use Rattle.std.proofs.lemmas.Bool.Decides.{nat_tests}
use Rattle.duties.specs.Duties.{kind, asked, count, first_by, before}
use Rattle.duties.specs.declared.duty.Duty.{Duty}
use Rattle.duties.specs.declared.duty.Literal.{Literal}
use Rattle.duties.specs.declared.duty.Literal.TheVariants.{Is, Not}
use Rattle.duties.specs.declared.duty.Task.{Task}
use Rattle.duties.specs.declared.duty.Task.TheVariants.{Scan, Reach, Hold}

first_trans : (a b c : ℕ) (r s t : Bool) → (r ≡ true → s ≡ true → t ≡ true) → first_by a b r ≡ true → first_by b c s ≡ true → first_by a c t ≡ true
first_trans a b c r s t h p q = grind (arith, nat_tests)

ltb_trans : (a b c : ℕ) → nat_lt a b ≡ true → nat_lt b c ≡ true → nat_lt a c ≡ true
ltb_trans a b c p q = grind (arith, nat_tests)

first_tie : (a b : ℕ) (r s : Bool) → first_by a b r ≡ false → first_by b a s ≡ false → (a ≡ b) × (r ≡ false) × (s ≡ false)
first_tie a b r s p q = (grind (arith, nat_tests), grind (arith, nat_tests), grind (arith, nat_tests))

ltb_tie : (a b : ℕ) → nat_lt a b ≡ false → nat_lt b a ≡ false → a ≡ b
ltb_tie a b p q = grind (arith, nat_tests)

same_literal : (l m : Literal) → count l ≡ count m → l ≡ m
same_literal (Is n) (Is k) e = ap Is (omega arith)
same_literal (Not n) (Not k) e = ap Not (omega arith)
same_literal (Is n) (Not k) e = absurd (omega arith)
same_literal (Not n) (Is k) e = absurd (omega arith)

same_task : (t u : Task) → kind t ≡ kind u → asked t ≡ asked u → t ≡ u
same_task (Scan t) (Scan u) k a = ap (λ n. Scan (record { 0 = n })) a
same_task (Reach t) (Reach u) k a = ap Reach (same_literal t u a)
same_task (Hold t) (Hold u) k a = ap Hold (same_literal t u a)
same_task (Scan t) (Reach u) k a = absurd (omega arith)
same_task (Scan t) (Hold u) k a = absurd (omega arith)
same_task (Reach t) (Scan u) k a = absurd (omega arith)
same_task (Reach t) (Hold u) k a = absurd (omega arith)
same_task (Hold t) (Scan u) k a = absurd (omega arith)
same_task (Hold t) (Reach u) k a = absurd (omega arith)

same_duty : (d e : Duty) → d.due ≡ e.due → d.task ≡ e.task → d ≡ e
same_duty d e p q = let make : ℕ → Task → Duty = λ n t. record { due = n; task = t } in ap (λ n. make n d.task) p ∙ ap (λ t. make e.due t) q

pub before_irreflexive : (d : Duty) → before d d ≡ false
before_irreflexive d = grind (arith, nat_tests)

pub before_transitive : (d e f : Duty) → before d e ≡ true → before e f ≡ true → before d f ≡ true
before_transitive d e f =
    first_trans d.due e.due f.due _ _ _
    (first_trans (kind d.task) (kind e.task) (kind f.task) _ _ _ (ltb_trans (asked d.task) (asked e.task) (asked f.task)))

pub before_total : (d e : Duty) → before d e ≡ false → before e d ≡ false → d ≡ e
before_total d e p q =
    let u = first_tie d.due e.due _ _ p q in
    let k = first_tie (kind d.task) (kind e.task) _ _ u.1 u.2 in
    same_duty d e u.0 (same_task d.task e.task k.0 (ltb_tie (asked d.task) (asked e.task) k.1 k.2))

-- of two duties that are not the same, just one is before the other
pub before_one : (d e : Duty) → (d ≢ e) → ((before d e ≡ true) × (before e d ≡ false)) ⊎ ((before d e ≡ false) × (before e d ≡ true))
before_one d e apart =
    elim (before d e) as (λ b. before d e ≡ b → ((b ≡ true) × (before e d ≡ false)) ⊎ ((b ≡ false) × (before e d ≡ true))) [
      | true ↦ λ p. elim (before e d) as (λ b. before e d ≡ b → ((true ≡ true) × (b ≡ false)) ⊎ ((true ≡ false) × (b ≡ true))) [
        | true ↦ λ q. absurd (both_ways _ (before_irreflexive d) (before_transitive d e d p q))
        | false ↦ λ q. inl (refl, refl)
      ]
          refl
      | false ↦ λ p. elim (before e d) as (λ b. before e d ≡ b → ((false ≡ true) × (b ≡ false)) ⊎ ((false ≡ false) × (b ≡ true))) [
        | true ↦ λ q. inr (refl, refl)
        | false ↦ λ q. absurd (apart (before_total d e p q))
      ]
          refl
    ]
    refl
