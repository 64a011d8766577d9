-- The lesser of two duties. Assumes nothing.
use Rattle.std.specs.Prelude.{cond, Some, None, Option}
use Rattle.duties.specs.Duties.{before}
use Rattle.duties.specs.declared.duty.Duty.{Duty}

-- of which each may be missing
abbrev pub lesser : Option Duty → Option Duty → Option Duty
lesser None b = b
lesser (Some d) None = Some d
lesser (Some d) (Some e) = cond (before e d) (Some e) (Some d)
