-- Which texts are refused, and by which fault: the first cause of four, and of a line its own first cause. Assumes nothing.
use Rattle.std.specs.Prelude.{◌≡◌, ℕ, ◌+◌, ◌<◌, ◌≤◌, true, false, cond, List, [], ◌∷◌, ◌++◌, length, codes, ◌==◌}
use Rattle.std.specs.List.{AllByRecursion}
use Rattle.duties.specs.declared.order.Event.{Event}
use Rattle.duties.specs.declared.order.Statement.{Statement}
use Rattle.duties.specs.Ranges.{literal_apart, t_bound}
use Rattle.fields.specs.declared.fault.Cause.{Cause}
use Rattle.names.specs.Names.{name_of}
use Rattle.sheets.specs.Sheets.{Content, blank}
use Rattle.text.specs.Spelling.{all, is_name}
use Rattle.lines.specs.declared.fault.LineCause.{LineCause}
use Rattle.lines.specs.declared.fault.LineCause.TheVariants as C
use Rattle.lines.specs.Lines.{declared}
use Rattle.grammar.specs.Grammar.{SpellsEvent, SpellsStatement}
use Rattle.grammar.specs.Shapes.{RefusesEvent, RefusesStatement}
use Rattle.verdicts.specs.declared.fault.LoadFault.{LoadFault}
use Rattle.verdicts.specs.declared.fault.LoadFault.TheVariants as F
use Rattle.verdicts.specs.Texts.{plain_byte}
use Rattle.verdicts.specs.Declares.{Declare, SpellsEach, ended, ordered_so, tabbed}

-- how many of the bytes are b
abbrev pub count_of : ℕ → List ℕ → ℕ
count_of b [] = 0
count_of b (c ∷ cs) = cond (c == b) (count_of b cs + 1) (count_of b cs)

-- how many line feeds there are
abbrev pub feeds : List ℕ → ℕ
feeds bs = count_of 10 bs

-- bytes that may be one field
abbrev pub Tabless : List ℕ → Type 0
Tabless w = count_of 9 w ≡ 0

-- the fields of an order after its key word: an event, an effect and up to four conditions
abbrev pub OrderFields : List ℕ → List ℕ → List (List ℕ) → Type 0
OrderFields ev ef cs = Tabless ev × Tabless ef × AllByRecursion Tabless cs × (length cs ≤ 4)

abbrev pub order_bytes : List ℕ → List ℕ → List (List ℕ) → List ℕ
order_bytes ev ef cs = codes "order" ++ 9 ∷ (ev ++ 9 ∷ (ef ++ tabbed cs))

-- a line with a key word and as many fields as it takes
pub data IsRecord : List ℕ → Type 0 where
  tag_record : {w : List ℕ} → Tabless w → IsRecord (codes "tag" ++ 9 ∷ w)
  point_record : {w : List ℕ} → Tabless w → IsRecord (codes "point" ++ 9 ∷ w)
  order_record : (ev ef : List ℕ) (cs : List (List ℕ)) → OrderFields ev ef cs → IsRecord (order_bytes ev ef cs)

-- why a line declares nothing beside the table of the lines above it, each cause with what passed before it; the key word is field 1
pub data RefusesLine (t : Content) : List ℕ → LineCause → Type 0 where
  no_record : {l : List ℕ} → (IsRecord l → ⊥) → RefusesLine t l C.Fields
  full_of_tags : {w : List ℕ} → Tabless w → 64 ≤ length t.tags → RefusesLine t (codes "tag" ++ 9 ∷ w) C.Full
  ill_named_tag : {w : List ℕ} → Tabless w → length t.tags < 64 → is_name w ≡ false → RefusesLine t (codes "tag" ++ 9 ∷ w) C.Name
  repeated_tag : {w : List ℕ} → length t.tags < 64 → is_name w ≡ true → declared t (name_of w) ≡ true → RefusesLine t (codes "tag" ++ 9 ∷ w) C.Repeated
  full_of_points : {w : List ℕ} → Tabless w → 64 ≤ length t.points → RefusesLine t (codes "point" ++ 9 ∷ w) C.Full
  ill_named_point : {w : List ℕ} → Tabless w → length t.points < 64 → is_name w ≡ false → RefusesLine t (codes "point" ++ 9 ∷ w) C.Name
  repeated_point : {w : List ℕ} → length t.points < 64 → is_name w ≡ true → declared t (name_of w) ≡ true → RefusesLine t (codes "point" ++ 9 ∷ w) C.Repeated
  full_of_orders : (ev ef : List ℕ) (cs : List (List ℕ)) → OrderFields ev ef cs → 128 ≤ length t.orders → RefusesLine t (order_bytes ev ef cs) C.Full
  bad_event : (ev ef : List ℕ) (cs : List (List ℕ)) {k : Cause} → OrderFields ev ef cs → length t.orders < 128 → RefusesEvent t.tags t.points ev k → RefusesLine t (order_bytes ev ef cs) (C.Word (record { field = 2; cause = k }))
  bad_effect : {ev : List ℕ} {e : Event} (ef : List ℕ) (cs : List (List ℕ)) {k : Cause} → OrderFields ev ef cs → length t.orders < 128 → SpellsEvent t.tags t.points ev e → RefusesStatement t.tags t.points ef k → RefusesLine t (order_bytes ev ef cs) (C.Word (record { field = 3; cause = k }))
  bad_condition : {ev ef : List ℕ} {e : Event} {f : Statement} {cs : List (List ℕ)} {ss : List Statement} (c : List ℕ) (more : List (List ℕ)) {k : Cause} → OrderFields ev ef (cs ++ c ∷ more) → length t.orders < 128 → SpellsEvent t.tags t.points ev e → SpellsStatement t.tags t.points ef f → SpellsEach t.tags t.points cs ss → RefusesStatement t.tags t.points c k → RefusesLine t (order_bytes ev ef (cs ++ c ∷ more)) (C.Word (record { field = length cs + 4; cause = k }))
  literal_with_duty : {ev ef : List ℕ} {cs : List (List ℕ)} {e : Event} {f : Statement} {ss : List Statement} → SpellsEvent t.tags t.points ev e → SpellsStatement t.tags t.points ef f → SpellsEach t.tags t.points cs ss → length cs ≤ 4 → length t.orders < 128 → literal_apart (ordered_so e f ss) ≡ false → RefusesLine t (order_bytes ev ef cs) C.LiteralWithDuty
  t_not_bound : {ev ef : List ℕ} {cs : List (List ℕ)} {e : Event} {f : Statement} {ss : List Statement} → SpellsEvent t.tags t.points ev e → SpellsStatement t.tags t.points ef f → SpellsEach t.tags t.points cs ss → length cs ≤ 4 → length t.orders < 128 → literal_apart (ordered_so e f ss) ≡ true → t_bound (ordered_so e f ss) ≡ false → RefusesLine t (order_bytes ev ef cs) C.UnboundT

-- a text short enough, of plain bytes alone
abbrev pub Readable : List ℕ → Type 0
Readable text = (length text ≤ 32768) × (all plain_byte text ≡ true)

-- lines count from 1, so a byte stands in the line after those that the line feeds before it end
pub data Refused : List ℕ → LoadFault → Type 0 where
  too_long : {text : List ℕ} → 32768 < length text → Refused text F.TooLong
  stray_byte : (before rest : List ℕ) (b : ℕ) → length (before ++ b ∷ rest) ≤ 32768 → all plain_byte before ≡ true → plain_byte b ≡ false → Refused (before ++ b ∷ rest) (F.StrayByte (feeds before + 1))
  unfinished : (before : List ℕ) (b : ℕ) → Readable (before ++ b ∷ []) → (b == 10) ≡ false → Refused (before ++ b ∷ []) (F.Unfinished (feeds before + 1))
  bad_line : {ls : List (List ℕ)} (l : List ℕ) (ms : List (List ℕ)) {t : Content} {c : LineCause} → Readable (ended (ls ++ l ∷ ms)) → Declare blank ls t → feeds l ≡ 0 → RefusesLine t l c → Refused (ended (ls ++ l ∷ ms)) (F.Line (record { line = length ls + 1; cause = c }))
