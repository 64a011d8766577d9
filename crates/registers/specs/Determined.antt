-- What a register means leaves its calls one outcome. Assumes nothing.
use Rattle.std.specs.Prelude.{◌≡◌, ℕ, Bool, ◌↔◌, List, Option}
use Rattle.ordered.specs.Ascending.{◌∈◌, Above, LeastSuch}
use Rattle.ordered.specs.Changes.{Entered, Struck}
use Rattle.duties.specs.Duties.{before}
use Rattle.duties.specs.declared.duty.Duty.{Duty}
use Rattle.registers.specs.Meaning.{Lawful}

-- two lawful sets with the same members are one
abbrev pub MembersMakeTheSet : Type 0
MembersMakeTheSet = (set set' : List Duty) (room room' : ℕ) → Lawful set room → Lawful set' room' → ((d : Duty) → d ∈ set ↔ d ∈ set') → set ≡ set'

-- whatever the make: registers with the same set and room that enter, or strike, the same duty answer the same and have the same set then, and the same duty comes after another
pub record CallsHaveOneOutcome : Type 0 where
  pub enter : (d : Duty) (r r' : Bool) (set left right : List Duty) (room : ℕ) → Lawful left room → Lawful right room → Entered d r set left room → Entered d r' set right room → (r ≡ r') × (left ≡ right)
  pub strike : (d : Duty) (r r' : Bool) (set left right : List Duty) (room : ℕ) → Lawful left room → Lawful right room → Struck d r set left → Struck d r' set right → (r ≡ r') × (left ≡ right)
  pub after : (from r r' : Option Duty) (set : List Duty) → LeastSuch before (Above before from) set r → LeastSuch before (Above before from) set r' → r ≡ r'
