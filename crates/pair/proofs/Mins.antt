-- The lesser of two duties as `min` gives it. Assumes nothing.
use Rattle.std.proofs.Common.{◌≡◌, Bool, true, false, cond, Some, refl, ap, ◌∙◌}
use Rattle.std.specs.Ordering.{ord_min}
use Rattle.duties.specs.contracts.duty.DutyOrd.TheImpl as duty
use Rattle.duties.specs.Duties.{before}
use Rattle.duties.specs.declared.duty.Duty.{Duty}
use Rattle.duties.proofs.Orders.{compared_before}
use Rattle.pair.specs.Lesser.{lesser}

-- `Some` of a choice is a choice between `Some`s
some_cond : (t : Bool) (d e : Duty) → Some (cond t e d) ≡ cond t (Some e) (Some d)
some_cond true d e = refl
some_cond false d e = refl

pub some_min : (d e : Duty) → Some (ord_min duty.ghosts.cmp d e) ≡ lesser (Some d) (Some e)
some_min d e = ap Some (ap (λ t. cond t e d) (compared_before e d)) ∙ some_cond (before e d) d e
