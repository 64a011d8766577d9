-- What becomes of a set, as a list of its members, when one is entered or struck. Assumes nothing.
use Rattle.std.specs.Prelude.{◌≡◌, ℕ, Bool, true, false, ◌⊎◌, ◌↔◌, List, length, Decides, ◌≢◌}
use Rattle.ordered.specs.Ascending.{◌∈◌}

-- x is entered into a set with room for so many, which answers r: another than those there is refused exactly where the set is as large as the room; and the set then has x, unless it was refused, and what it had
pub record Entered {X : Type 0} (x : X) (r : Bool) (set set' : List X) (room : ℕ) : Type 0 where
  pub refused : (r ≡ false) ↔ ((x ∈ set → ⊥) × (length set ≡ room))
  pub each : (z : X) → z ∈ set' ↔ ((z ∈ set) ⊎ ((z ≡ x) × (r ≡ true)))

-- x is struck, which answers r, whether it was there; and the set then has what it had but x
pub record Struck {X : Type 0} (x : X) (r : Bool) (set set' : List X) : Type 0 where
  pub answer : Decides r (x ∈ set)
  pub each : (z : X) → z ∈ set' ↔ ((z ∈ set) × (z ≢ x))
