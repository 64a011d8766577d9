-- Where a duty belongs in a chain. Assumes nothing.
use Rattle.std.specs.Prelude.{ℕ, Bool, true, cond, List, [], ◌∷◌, Some, None, Option, Ok, Err, Result}
use Rattle.ordered.specs.Ascending.{following, leading}
use Rattle.duties.specs.Duties.{before}
use Rattle.duties.specs.declared.duty.Duty.{Duty}
use Rattle.chain.specs.Walk.{trail}
use Rattle.chain.specs.declared.find.Spot.{Spot}
use Rattle.chain.specs.declared.link.Link.{Link}

-- at a row that is not before d: the spot is d's own, unless d is before the row
abbrev pub stops_at : Spot → Link → Duty → Result Spot Spot
stops_at s row d = cond (before d row.duty) (Err s) (Ok s)

-- among these rows, the first of which is at the spot s: at the first that is not before d, or behind them all
abbrev pub spot_among : List Link → Duty → Spot → Result Spot Spot
spot_among [] d s = Err s
spot_among (row ∷ rows) d s = cond (before row.duty d) (spot_among rows d (record { prev = Some s.at; at = row.next })) (stops_at s row d)

-- among the k rows from p on
abbrev pub spot_of : List Link → Duty → ℕ → ℕ → Result Spot Spot
spot_of rows d p k = spot_among (trail rows p k) d (record { prev = None; at = p })

-- the spot, whether it is the duty's own or not
abbrev pub spot_in : Result Spot Spot → Spot
spot_in (Ok s) = s
spot_in (Err s) = s

-- whether e is above the given duty; any is, where none is given
abbrev pub comes_above : Option Duty → Duty → Bool
comes_above None e = true
comes_above (Some d) e = before d e

-- the first of a list that is above the given duty
abbrev pub next_above : Option Duty → List Duty → Option Duty
next_above None es = leading es
next_above (Some d) es = following before d es
