-- The order of duties. Assumes nothing.
use Rattle.std.specs.Prelude.{◌≡◌, ℕ, ◌+◌, ◌*◌, Bool, true, false, cond, ◌⊎◌, ◌≢◌, nat_lt}
use Rattle.duties.specs.declared.duty.Duty.{Duty}
use Rattle.duties.specs.declared.duty.Literal.{Literal}
use Rattle.duties.specs.declared.duty.Literal.TheVariants.{Is, Not}
use Rattle.duties.specs.declared.duty.Task.{Task}
use Rattle.duties.specs.declared.duty.Task.TheVariants.{Scan, Reach, Hold}

-- a literal counts as twice its point's number, plus one where the point does not hold
abbrev pub count : Literal → ℕ
count (Is n) = 2 * n
count (Not n) = 2 * n + 1

-- a literal's point, and whether it says that the point does not hold
abbrev pub point : Literal → ℕ
point (Is n) = n
point (Not n) = n

abbrev pub denied : Literal → Bool
denied (Is n) = false
denied (Not n) = true

-- scan, reach, hold
abbrev pub kind : Task → ℕ
kind (Scan s) = 0
kind (Reach l) = 1
kind (Hold l) = 2

-- what is asked, as a number: a set of tags as the sum of 2^n over its numbers n
abbrev pub asked : Task → ℕ
asked (Scan s) = s.0
asked (Reach l) = count l
asked (Hold l) = count l

-- by a and b, or by `rest` where they are equal
abbrev pub first_by : ℕ → ℕ → Bool → Bool
first_by a b rest = cond (nat_lt a b) true (cond (nat_lt b a) false rest)

-- by due minute, then by kind, then by what is asked
abbrev pub before : Duty → Duty → Bool
before d e = first_by d.due e.due (first_by (kind d.task) (kind e.task) (nat_lt (asked d.task) (asked e.task)))

-- no duty is before itself; before carries over; and of two unequal duties just one is before the other
abbrev pub DutiesAreTotallyOrdered : Type 0
DutiesAreTotallyOrdered =
    ((d : Duty) → before d d ≡ false)
    × ((d e f : Duty) → before d e ≡ true → before e f ≡ true → before d f ≡ true)
    × ((d e : Duty) → (d ≢ e) → ((before d e ≡ true) × (before e d ≡ false)) ⊎ ((before d e ≡ false) × (before e d ≡ true)))
