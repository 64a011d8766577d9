-- What the lines of a sheet declare. Assumes nothing.
use Rattle.std.specs.Prelude.{◌≡◌, ℕ, ◌<◌, ◌≤◌, true, false, List, [], ◌∷◌, ◌++◌, map, length, take, replicate, Some, None, codes}
use Rattle.duties.specs.declared.order.Event.{Event}
use Rattle.duties.specs.declared.order.Order.{Order}
use Rattle.duties.specs.declared.order.Statement.{Statement}
use Rattle.duties.specs.Ranges.{literal_apart, t_bound}
use Rattle.names.specs.declared.name.Name.{Name}
use Rattle.names.specs.Names.{name_of}
use Rattle.sheets.specs.Sheets.{Content, blank, with_order, with_point, with_tag}
use Rattle.text.specs.Spelling.{all, is_name}
use Rattle.lines.specs.Lines.{declared}
use Rattle.grammar.specs.Grammar.{SpellsEvent, SpellsStatement}
use Rattle.verdicts.specs.Texts.{plain_byte}

-- lines, each with its line feed
abbrev pub ended : List (List ℕ) → List ℕ
ended [] = []
ended (l ∷ ls) = l ++ 10 ∷ ended ls

-- fields, a tab before each
abbrev pub tabbed : List (List ℕ) → List ℕ
tabbed [] = []
tabbed (f ∷ fs) = 9 ∷ f ++ tabbed fs

-- each field spells its statement
pub data SpellsEach (tags points : List Name) : List (List ℕ) → List Statement → Type 0 where
  no_field : SpellsEach tags points [] []
  and_field : {f : List ℕ} {fs : List (List ℕ)} {s : Statement} {ss : List Statement} → SpellsStatement tags points f s → SpellsEach tags points fs ss → SpellsEach tags points (f ∷ fs) (s ∷ ss)

-- an order whose conditions fill the four places from the first on
abbrev pub ordered_so : Event → Statement → List Statement → Order
ordered_so ev ef ss = record { event = ev; effect = ef; conditions = take 4 (map Some ss ++ replicate 4 None) }

-- what one more line declares, beside the table of the lines above it
pub data DeclaresLine (t : Content) : List ℕ → Content → Type 0 where
  a_tag : {w : List ℕ} → is_name w ≡ true → declared t (name_of w) ≡ false → length t.tags < 64 → DeclaresLine t (codes "tag" ++ 9 ∷ w) (with_tag t (name_of w))
  a_point : {w : List ℕ} → is_name w ≡ true → declared t (name_of w) ≡ false → length t.points < 64 → DeclaresLine t (codes "point" ++ 9 ∷ w) (with_point t (name_of w))
  an_order : {ev ef : List ℕ} {cs : List (List ℕ)} {e : Event} {f : Statement} {ss : List Statement} → SpellsEvent t.tags t.points ev e → SpellsStatement t.tags t.points ef f → SpellsEach t.tags t.points cs ss → length cs ≤ 4 → length t.orders < 128 → literal_apart (ordered_so e f ss) ≡ true → t_bound (ordered_so e f ss) ≡ true → DeclaresLine t (codes "order" ++ 9 ∷ (ev ++ 9 ∷ (ef ++ tabbed cs))) (with_order t (ordered_so e f ss))

-- line after line, from one table to another
pub data Declare : Content → List (List ℕ) → Content → Type 0 where
  no_line : {t : Content} → Declare t [] t
  and_line : {t u v : Content} {l : List ℕ} {ls : List (List ℕ)} → DeclaresLine t l u → Declare u ls v → Declare t (l ∷ ls) v

-- a text whose lines declare this table
pub record Declares (text : List ℕ) (t : Content) : Type 0 where
  pub short : length text ≤ 32768
  pub plain : all plain_byte text ≡ true
  pub lines : List (List ℕ)
  pub spelled : text ≡ ended lines
  pub each : Declare blank lines t
