-- The derived order of duties is the one that `before` defines. Assumes nothing.
use Rattle.std.proofs.Common.{◌≡◌, ℕ, ltb, refl, ap, ◌∙◌, arith}
use Rattle.std.proofs.lemmas.Bool.Decides.{nat_tests}
use Rattle.std.specs.declared.cmp.Ordering.{Ordering}
use Rattle.std.specs.declared.cmp.Ordering.TheVariants.{Less, Equal, Greater}
use Rattle.std.specs.Ordering.{is_lt, is_some_and, nat_cmp, ordering_then, partial_lt}
use Rattle.duties.specs.Duties.{asked, before, count, first_by, kind}
use Rattle.duties.specs.contracts.literal_order.LiteralPartialOrd.TheImpl as literal
use Rattle.duties.specs.contracts.duty.TaskOrd.TheImpl as task
use Rattle.duties.specs.contracts.duty.DutyOrd.TheImpl as duty
use Rattle.duties.specs.contracts.duty.DutyOrd.TheImpl.Laws as laws
use Rattle.duties.specs.contracts.duty.DutyPartialOrd.TheImpl as partial
use Rattle.duties.specs.declared.duty.Duty.{Duty}
use Rattle.duties.specs.declared.duty.Literal.{Literal}
use Rattle.duties.specs.declared.duty.Literal.TheVariants.{Is, Not}
use Rattle.duties.specs.declared.duty.Task.{Task}
use Rattle.duties.specs.declared.duty.Task.TheVariants.{Scan, Reach, Hold}

-- one field, and then the rest
next_less : (a b : ℕ) (rest : Ordering) → is_lt (ordering_then (nat_cmp a b) rest) ≡ first_by a b (is_lt rest)
next_less a b Less = grind (arith, nat_tests)
next_less a b Equal = grind (arith, nat_tests)
next_less a b Greater = grind (arith, nat_tests)

-- literals, as `<` tests them and as the order of tasks has them
pub literal_less : (l m : Literal) → partial_lt literal.ghosts.partial_cmp l m ≡ ltb (count l) (count m)
literal_less (Is n) (Is k) = grind (arith, nat_tests)
literal_less (Is n) (Not k) = grind (arith, nat_tests)
literal_less (Not n) (Is k) = grind (arith, nat_tests)
literal_less (Not n) (Not k) = grind (arith, nat_tests)

task_less : (t u : Task) → is_lt (task.ghosts.cmp t u) ≡ first_by (kind t) (kind u) (ltb (asked t) (asked u))
task_less (Scan s) (Scan t) = grind (arith, nat_tests)
task_less (Reach l) (Reach m) = literal_less l m
task_less (Hold l) (Hold m) = literal_less l m
task_less (Scan s) (Reach m) = refl
task_less (Scan s) (Hold m) = refl
task_less (Reach l) (Scan t) = refl
task_less (Reach l) (Hold m) = refl
task_less (Hold l) (Scan t) = refl
task_less (Hold l) (Reach m) = refl

-- as `cmp`, `min` and `max` say it, and as `<` does
pub compared_before : (d e : Duty) → is_lt (duty.ghosts.cmp d e) ≡ before d e
compared_before d e = next_less d.due e.due (task.ghosts.cmp d.task e.task) ∙ ap (first_by d.due e.due) (task_less d.task e.task)

pub less_before : (d e : Duty) → partial_lt partial.ghosts.partial_cmp d e ≡ before d e
less_before d e = ap (is_some_and is_lt) (laws.matches_partial_cmp-law d e) ∙ compared_before d e
