-- What a register means, a set of duties and a room; and what is required of its memory. Assumes nothing.
use Rattle.std.specs.Prelude.{◌≡◌, ℕ, ◌≤◌, true, List, length, drop}
use Rattle.ordered.specs.Ascending.{rising}
use Rattle.duties.specs.Duties.{before}
use Rattle.duties.specs.declared.duty.Duty.{Duty}

-- the set is strictly ascending in the order of duties and fits the room, which is at most 64
pub record Lawful (set : List Duty) (room : ℕ) : Type 0 where
  pub ascending : rising before set ≡ true
  pub fits : length set ≤ room
  pub small : room ≤ 64

-- The rows that a register keeps its set in, before and after a call. Which rows have the set, and in what order, is up to the make, and what the spare ones hold is left open;
-- still required: there are as many rows as before, and those past the 64th are as they were.
pub record SpareRowsLeftOpen {X : Type 0} (rows rows' : List X) : Type 0 where
  pub as_many : length rows' ≡ length rows
  pub past_the_room : drop 64 rows' ≡ drop 64 rows

-- a relation that holds of any value and itself, and carries over
pub record CarriesOver {S : Type 0} (R : S → S → Type 0) : Type 0 where
  pub itself : (s : S) → R s s
  pub on : (s t u : S) → R s t → R t u → R s u
