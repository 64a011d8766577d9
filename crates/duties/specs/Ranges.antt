-- Which numbers a sheet may have, and how an order may be put together. Assumes nothing.
use Rattle.std.specs.Prelude.{ℕ, ◌^◌, Bool, true, false, not, ◌&&◌, ◌||◌, List, [], ◌∷◌, Some, None, Option, nat_le, nat_lt}
use Rattle.duties.specs.declared.duty.Literal.{Literal}
use Rattle.duties.specs.declared.duty.Literal.TheVariants.{Is, Not}
use Rattle.duties.specs.declared.duty.Task.{Task}
use Rattle.duties.specs.declared.duty.Task.TheVariants.{Scan, Reach, Hold}
use Rattle.duties.specs.declared.order.Due.{Due}
use Rattle.duties.specs.declared.order.Due.TheVariants.{At, Now, Then}
use Rattle.duties.specs.declared.order.DutyPattern.{DutyPattern}
use Rattle.duties.specs.declared.order.Event.{Event}
use Rattle.duties.specs.declared.order.Event.TheVariants.{Tags, Met, Failed}
use Rattle.duties.specs.declared.order.Order.{Order}
use Rattle.duties.specs.declared.order.Statement.{Statement}
use Rattle.duties.specs.declared.order.Statement.TheVariants.{Literal as Says, Duty as Asks, NoDuty as Denies}

-- the last minute, and the most that a due adds to now or to T
abbrev pub last_minute : ℕ
last_minute = 1000000000

abbrev pub most_added : ℕ
most_added = 1000000

abbrev pub every : {X : Type 0} → (X → Bool) → List X → Bool
every f [] = true
every f (x ∷ xs) = f x && every f xs

abbrev pub some : {X : Type 0} → (X → Bool) → List X → Bool
some f [] = false
some f (x ∷ xs) = f x || some f xs

-- where there are so many tags and points: a set has a tag, and all its tags are among these
module _ (tags points : ℕ) where
  abbrev pub set_fits : ℕ → Bool
  set_fits s = nat_lt 0 s && nat_lt s (2 ^ tags)

  abbrev pub literal_fits : Literal → Bool
  literal_fits (Is n) = nat_lt n points
  literal_fits (Not n) = nat_lt n points

  abbrev pub task_fits : Task → Bool
  task_fits (Scan s) = set_fits s.0
  task_fits (Reach l) = literal_fits l
  task_fits (Hold l) = literal_fits l

  abbrev pub due_fits : Due → Bool
  due_fits (At u) = nat_le u last_minute
  due_fits (Now c) = nat_le c most_added
  due_fits (Then c) = nat_le c most_added

  abbrev pub pattern_fits : DutyPattern → Bool
  pattern_fits p = due_fits p.due && task_fits p.task

  abbrev pub event_fits : Event → Bool
  event_fits (Tags s) = set_fits s.0
  event_fits (Met p) = pattern_fits p
  event_fits (Failed p) = pattern_fits p

  abbrev pub statement_fits : Statement → Bool
  statement_fits (Says l) = literal_fits l
  statement_fits (Asks p) = pattern_fits p
  statement_fits (Denies p) = pattern_fits p

  abbrev pub condition_fits : Option Statement → Bool
  condition_fits None = true
  condition_fits (Some s) = statement_fits s

-- speaks of a duty
abbrev pub duty_event : Event → Bool
duty_event (Tags s) = false
duty_event (Met p) = true
duty_event (Failed p) = true

abbrev pub duty_statement : Statement → Bool
duty_statement (Says l) = false
duty_statement (Asks p) = true
duty_statement (Denies p) = true

abbrev pub duty_condition : Option Statement → Bool
duty_condition None = false
duty_condition (Some s) = duty_statement s

-- a literal effect comes with a read alone: no duty in its event or its conditions
abbrev pub literal_apart : Order → Bool
literal_apart o = duty_statement o.effect || (not (duty_event o.event) && not (some duty_condition o.conditions))

-- T stands in a due
abbrev pub on_t : Due → Bool
on_t (At u) = false
on_t (Now c) = false
on_t (Then c) = true

-- T stands in a statement, in one that asks for a duty, in one that denies it, in a duty event
abbrev pub statement_on_t : Statement → Bool
statement_on_t (Says l) = false
statement_on_t (Asks p) = on_t p.due
statement_on_t (Denies p) = on_t p.due

abbrev pub asks_on_t : Option Statement → Bool
asks_on_t None = false
asks_on_t (Some (Says l)) = false
asks_on_t (Some (Asks p)) = on_t p.due
asks_on_t (Some (Denies p)) = false

abbrev pub denies_on_t : Option Statement → Bool
denies_on_t None = false
denies_on_t (Some (Says l)) = false
denies_on_t (Some (Asks p)) = false
denies_on_t (Some (Denies p)) = on_t p.due

abbrev pub event_on_t : Event → Bool
event_on_t (Tags s) = false
event_on_t (Met p) = on_t p.due
event_on_t (Failed p) = on_t p.due

-- T in the effect or under "no" in a condition is bound: a duty event or a plain duty condition has T
abbrev pub t_bound : Order → Bool
t_bound o =
    not (statement_on_t o.effect || some denies_on_t o.conditions) || (event_on_t o.event || some asks_on_t o.conditions)

-- the conditions fill the places from the first on
abbrev pub packed : List (Option Statement) → Bool
packed [] = true
packed (Some s ∷ cs) = packed cs
packed (None ∷ []) = true
packed (None ∷ None ∷ cs) = packed (None ∷ cs)
packed (None ∷ Some s ∷ cs) = false

-- an order that a sheet with so many tags and points may have
abbrev pub order_fits : ℕ → ℕ → Order → Bool
order_fits tags points o =
    event_fits tags points o.event
    && (statement_fits tags points o.effect
    && (every (condition_fits tags points) o.conditions
    && (packed o.conditions
    && (literal_apart o && t_bound o))))
