-- The table of refusals: each case's number, line and field. Assumes nothing.
use Rattle.std.specs.Prelude.{ℕ}
use Rattle.fields.specs.declared.fault.Cause.{Cause}
use Rattle.fields.specs.declared.fault.Cause.TheVariants as W
use Rattle.lines.specs.declared.fault.LineCause.{LineCause}
use Rattle.lines.specs.declared.fault.LineCause.TheVariants as C
use Rattle.verdicts.specs.declared.fault.LoadFault.{LoadFault}
use Rattle.verdicts.specs.declared.fault.LoadFault.TheVariants as F

abbrev pub word_number : Cause → ℕ
word_number W.Shape = 8
word_number W.Undeclared = 9
word_number W.Over = 10

-- number and field
abbrev pub line_refusal : LineCause → ℕ × ℕ
line_refusal C.Fields = (4, 0)
line_refusal C.Name = (5, 2)
line_refusal C.Repeated = (6, 2)
line_refusal C.Full = (7, 0)
line_refusal (C.Word w) = (word_number w.cause, w.field)
line_refusal C.LiteralWithDuty = (11, 3)
line_refusal C.UnboundT = (12, 0)

-- number, line and field
abbrev pub refusal : LoadFault → ℕ × ℕ × ℕ
refusal F.TooLong = (1, 0, 0)
refusal (F.Unfinished k) = (2, k, 0)
refusal (F.StrayByte k) = (3, k, 0)
refusal (F.Line l) = ((line_refusal l.cause).0, l.line, (line_refusal l.cause).1)
