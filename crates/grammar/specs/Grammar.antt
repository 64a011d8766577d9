-- The grammar of sheets: which bytes spell what, where these tags and points are declared. Assumes nothing.
use Rattle.std.specs.Prelude.{◌≡◌, ℕ, ◌≤◌, true, List, ◌∷◌, ◌++◌, Some, codes}
use Rattle.duties.specs.declared.duty.Literal.{Literal}
use Rattle.duties.specs.declared.duty.Literal.TheVariants as L
use Rattle.duties.specs.declared.duty.Task.TheVariants as K
use Rattle.duties.specs.declared.order.Due.{Due}
use Rattle.duties.specs.declared.order.Due.TheVariants as U
use Rattle.duties.specs.declared.order.DutyPattern.{DutyPattern}
use Rattle.duties.specs.declared.order.Event.{Event}
use Rattle.duties.specs.declared.order.Event.TheVariants as E
use Rattle.duties.specs.declared.order.Statement.{Statement}
use Rattle.duties.specs.declared.order.Statement.TheVariants as S
use Rattle.duties.specs.declared.sets.TagSet.{TagSet}
use Rattle.duties.specs.Ranges.{last_minute, most_added}
use Rattle.duties.specs.Sets.{adding}
use Rattle.fields.specs.Fields.{pattern}
use Rattle.names.specs.declared.name.Name.{Name}
use Rattle.names.specs.Names.{name_of}
use Rattle.ordered.specs.Finding.{LastWith}
use Rattle.text.specs.Spelling.{is_name, numeral, value}

-- digits that write n, which is within the limit
abbrev pub NumberUpTo : ℕ → List ℕ → ℕ → Type 0
NumberUpTo limit ds n = (numeral ds ≡ true) × (value 0 ds ≡ n) × (n ≤ limit)

-- a name that is declared as number n
abbrev pub Numbered : List Name → List ℕ → ℕ → Type 0
Numbered ns w n = (is_name w ≡ true) × LastWith (λ m. m) ns (name_of w) (Some n)

abbrev pub tag_set : ℕ → TagSet
tag_set s = record { 0 = s }

-- a minute, now or T, or now or T and what is added
pub data SpellsDue : List ℕ → Due → Type 0 where
  minute : {ds : List ℕ} {n : ℕ} → NumberUpTo last_minute ds n → SpellsDue ds (U.At n)
  from_now : SpellsDue (codes "now") (U.Now 0)
  now_plus : {ds : List ℕ} {n : ℕ} → NumberUpTo most_added ds n → SpellsDue (codes "now+" ++ ds) (U.Now n)
  from_t : SpellsDue (codes "T") (U.Then 0)
  t_plus : {ds : List ℕ} {n : ℕ} → NumberUpTo most_added ds n → SpellsDue (codes "T+" ++ ds) (U.Then n)

-- names joined by +: the set of the tags that they name
pub data SpellsSet (tags : List Name) : List ℕ → ℕ → Type 0 where
  one_tag : {w : List ℕ} {n : ℕ} → Numbered tags w n → SpellsSet tags w (adding 0 n)
  and_tag : {ws : List ℕ} {s n : ℕ} → SpellsSet tags ws s → (w : List ℕ) → Numbered tags w n → SpellsSet tags (ws ++ 43 ∷ w) (adding s n)

-- a point, or ! and a point
pub data SpellsLiteral (points : List Name) : List ℕ → Literal → Type 0 where
  is_so : {w : List ℕ} {n : ℕ} → Numbered points w n → SpellsLiteral points w (L.Is n)
  is_not : {w : List ℕ} {n : ℕ} → Numbered points w n → SpellsLiteral points (33 ∷ w) (L.Not n)

-- a key word, a due, and names joined by + or a literal, parted by spaces
pub data SpellsDuty (tags points : List Name) : List ℕ → DutyPattern → Type 0 where
  scan : {d w : List ℕ} {u : Due} {s : ℕ} → SpellsDue d u → SpellsSet tags w s → SpellsDuty tags points (codes "scan " ++ (d ++ 32 ∷ w)) (pattern u (K.Scan (tag_set s)))
  reach : {d w : List ℕ} {u : Due} {l : Literal} → SpellsDue d u → SpellsLiteral points w l → SpellsDuty tags points (codes "reach " ++ (d ++ 32 ∷ w)) (pattern u (K.Reach l))
  hold : {d w : List ℕ} {u : Due} {l : Literal} → SpellsDue d u → SpellsLiteral points w l → SpellsDuty tags points (codes "hold " ++ (d ++ 32 ∷ w)) (pattern u (K.Hold l))

-- names joined by +, or `met` or `failed` and a duty
pub data SpellsEvent (tags points : List Name) : List ℕ → Event → Type 0 where
  of_tags : {w : List ℕ} {s : ℕ} → SpellsSet tags w s → SpellsEvent tags points w (E.Tags (tag_set s))
  when_met : {w : List ℕ} {p : DutyPattern} → SpellsDuty tags points w p → SpellsEvent tags points (codes "met " ++ w) (E.Met p)
  when_failed : {w : List ℕ} {p : DutyPattern} → SpellsDuty tags points w p → SpellsEvent tags points (codes "failed " ++ w) (E.Failed p)

-- an effect or a condition: a literal, a duty, or `no` and a duty
pub data SpellsStatement (tags points : List Name) : List ℕ → Statement → Type 0 where
  of_literal : {w : List ℕ} {l : Literal} → SpellsLiteral points w l → SpellsStatement tags points w (S.Literal l)
  of_duty : {w : List ℕ} {p : DutyPattern} → SpellsDuty tags points w p → SpellsStatement tags points w (S.Duty p)
  of_no_duty : {w : List ℕ} {p : DutyPattern} → SpellsDuty tags points w p → SpellsStatement tags points (codes "no " ++ w) (S.NoDuty p)
