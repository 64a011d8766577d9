-- What a pair of registers keeps. Assumes nothing.
use Rattle.std.specs.Prelude.{◌≡◌, ℕ, Bool, true, false, List}
use Rattle.ordered.specs.Ascending.{◌∈◌, union}
use Rattle.duties.specs.Duties.{before}
use Rattle.duties.specs.declared.duty.Duty.{Duty}
use Rattle.duties.specs.declared.duty.Task.{Task}
use Rattle.duties.specs.declared.duty.Task.TheVariants.{Scan, Reach, Hold}
use Rattle.registers.specs.Meaning.{Lawful}

abbrev pub scan_task : Task → Bool
scan_task (Scan s) = true
scan_task (Reach l) = false
scan_task (Hold l) = false

-- whether a duty asks for a scan
abbrev pub scan : Duty → Bool
scan d = scan_task d.task

-- The first has scan duties alone, the second the others; and all of them together fit the room.
pub record Parted (first second : List Duty) (room : ℕ) : Type 0 where
  pub scans : (d : Duty) → d ∈ first → scan d ≡ true
  pub others : (d : Duty) → d ∈ second → scan d ≡ false
  pub lawful : Lawful (union before first second) room
