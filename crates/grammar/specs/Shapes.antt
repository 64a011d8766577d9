-- Why a field is refused. A field has a shape or it has none; a shape has a number with its limit (0 and 0 where it has no number), names that
-- must be declared as tags, and names that must be declared as points. Assumes nothing.
use Rattle.std.specs.Prelude.{◌≡◌, ℕ, ◌<◌, ◌≤◌, true, ◌⊎◌, ◌↔◌, List, [], ◌∷◌, ◌++◌, None, Err, codes}
use Rattle.duties.specs.Ranges.{last_minute, most_added}
use Rattle.fields.specs.declared.fault.Cause.{Cause}
use Rattle.fields.specs.declared.fault.Cause.TheVariants.{Shape, Undeclared, Over}
use Rattle.fields.specs.Fields.{event_of, statement_of}
use Rattle.names.specs.declared.name.Name.{Name}
use Rattle.names.specs.Names.{name_of}
use Rattle.ordered.specs.Finding.{LastWith}
use Rattle.text.specs.Spelling.{is_name, numeral, value}

-- a minute, now or T, or now or T and what is added: with the number and its limit
pub data DueShape : List ℕ → ℕ → ℕ → Type 0 where
  minute : {ds : List ℕ} → numeral ds ≡ true → DueShape ds (value 0 ds) last_minute
  from_now : DueShape (codes "now") 0 most_added
  now_plus : {ds : List ℕ} → numeral ds ≡ true → DueShape (codes "now+" ++ ds) (value 0 ds) most_added
  from_t : DueShape (codes "T") 0 most_added
  t_plus : {ds : List ℕ} → numeral ds ≡ true → DueShape (codes "T+" ++ ds) (value 0 ds) most_added

-- names joined by +: with the names
pub data SetShape : List ℕ → List (List ℕ) → Type 0 where
  one_name : {w : List ℕ} → is_name w ≡ true → SetShape w (w ∷ [])
  and_name : {ws : List ℕ} {ns : List (List ℕ)} → SetShape ws ns → (w : List ℕ) → is_name w ≡ true → SetShape (ws ++ 43 ∷ w) (ns ++ w ∷ [])

-- a name, or ! and a name: with the name
pub data LiteralShape : List ℕ → List ℕ → Type 0 where
  is_so : {w : List ℕ} → is_name w ≡ true → LiteralShape w w
  is_not : {w : List ℕ} → is_name w ≡ true → LiteralShape (33 ∷ w) w

-- from here on: with the number, its limit, the names of tags and the names of points

-- a key word, a due, and names joined by + or a literal, parted by spaces
pub data DutyShape : List ℕ → (n limit : ℕ) → (tags points : List (List ℕ)) → Type 0 where
  scan : {d w : List ℕ} {n limit : ℕ} {ns : List (List ℕ)} → DueShape d n limit → SetShape w ns → DutyShape (codes "scan " ++ (d ++ 32 ∷ w)) n limit ns []
  reach : {d w v : List ℕ} {n limit : ℕ} → DueShape d n limit → LiteralShape w v → DutyShape (codes "reach " ++ (d ++ 32 ∷ w)) n limit [] (v ∷ [])
  hold : {d w v : List ℕ} {n limit : ℕ} → DueShape d n limit → LiteralShape w v → DutyShape (codes "hold " ++ (d ++ 32 ∷ w)) n limit [] (v ∷ [])

-- names joined by +, or `met` or `failed` and a duty
pub data EventShape : List ℕ → (n limit : ℕ) → (tags points : List (List ℕ)) → Type 0 where
  of_tags : {w : List ℕ} {ns : List (List ℕ)} → SetShape w ns → EventShape w 0 0 ns []
  when_met : {w : List ℕ} {n limit : ℕ} {ts ps : List (List ℕ)} → DutyShape w n limit ts ps → EventShape (codes "met " ++ w) n limit ts ps
  when_failed : {w : List ℕ} {n limit : ℕ} {ts ps : List (List ℕ)} → DutyShape w n limit ts ps → EventShape (codes "failed " ++ w) n limit ts ps

-- a literal, a duty, or `no` and a duty
pub data StatementShape : List ℕ → (n limit : ℕ) → (tags points : List (List ℕ)) → Type 0 where
  of_literal : {w v : List ℕ} → LiteralShape w v → StatementShape w 0 0 [] (v ∷ [])
  of_duty : {w : List ℕ} {n limit : ℕ} {ts ps : List (List ℕ)} → DutyShape w n limit ts ps → StatementShape w n limit ts ps
  of_no_duty : {w : List ℕ} {n limit : ℕ} {ts ps : List (List ℕ)} → DutyShape w n limit ts ps → StatementShape (codes "no " ++ w) n limit ts ps

-- some name of the list is not declared
abbrev pub UndeclaredAmong : List Name → List (List ℕ) → Type 0
UndeclaredAmong ns [] = ⊥
UndeclaredAmong ns (w ∷ ws) = LastWith (λ m. m) ns (name_of w) None ⊎ UndeclaredAmong ns ws

-- the cause by which a field is refused: there is no shape; else its number is over its limit; else a name is not declared
abbrev pub Refuses : (tags points : List Name) → ((n limit : ℕ) → (ts ps : List (List ℕ)) → Type 0) → Cause → Type 0
Refuses tags points Shaped Shape = (n limit : ℕ) (ts ps : List (List ℕ)) → Shaped n limit ts ps → ⊥
Refuses tags points Shaped Over = (n limit : ℕ) × (ts ps : List (List ℕ)) × Shaped n limit ts ps × (limit < n)
Refuses tags points Shaped Undeclared =
    (n limit : ℕ) × (ts ps : List (List ℕ)) × Shaped n limit ts ps × (n ≤ limit) × (UndeclaredAmong tags ts ⊎ UndeclaredAmong points ps)

abbrev pub RefusesEvent : (tags points : List Name) → List ℕ → Cause → Type 0
RefusesEvent tags points bs k = Refuses tags points (EventShape bs) k

abbrev pub RefusesStatement : (tags points : List Name) → List ℕ → Cause → Type 0
RefusesStatement tags points bs k = Refuses tags points (StatementShape bs) k

abbrev pub AnEventIsRefusedByItsFirstCause : Type 0
AnEventIsRefusedByItsFirstCause =
    (tags points : List Name) (bs : List ℕ) (k : Cause) → (event_of tags points bs ≡ Err k) ↔ RefusesEvent tags points bs k

abbrev pub AStatementIsRefusedByItsFirstCause : Type 0
AStatementIsRefusedByItsFirstCause =
    (tags points : List Name) (bs : List ℕ) (k : Cause) → (statement_of tags points bs ≡ Err k) ↔ RefusesStatement tags points bs k
