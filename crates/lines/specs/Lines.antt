-- What a line declares, or its first fault. Assumes nothing.
use Rattle.std.specs.Prelude.{ℕ, Bool, cond, List, [], ◌∷◌, ◌++◌, length, drop, Some, None, Ok, Err, codes, Option, Result, nat_le, nat_lt}
use Rattle.duties.specs.declared.order.Order.{Order}
use Rattle.duties.specs.declared.order.Statement.{Statement}
use Rattle.duties.specs.Ranges.{literal_apart, t_bound}
use Rattle.fields.specs.declared.fault.WordFault.{WordFault}
use Rattle.fields.specs.Fields.{event_of, statement_of}
use Rattle.fields.specs.Reading.{and_then, by, placed}
use Rattle.names.specs.declared.name.Name.{Name}
use Rattle.names.specs.Names.{name_before, name_of}
use Rattle.ordered.specs.Ascending.{member}
use Rattle.sheets.specs.Sheets.{Content, with_order, with_point, with_tag}
use Rattle.text.specs.Spelling.{is_name}
use Rattle.text.specs.Split.{past, split}
use Rattle.lines.specs.declared.fault.LineCause.{LineCause}
use Rattle.lines.specs.declared.fault.LineCause.TheVariants as C

-- the only field
abbrev pub one_field : List (List ℕ) → Result (List ℕ) LineCause
one_field [] = Err C.Fields
one_field (a ∷ []) = Ok a
one_field (a ∷ b ∷ l) = Err C.Fields

-- there are fewer than the most
abbrev pub room : ℕ → ℕ → Result (Unit {0}) LineCause
room most n = cond (nat_lt n most) (Ok tt) (Err C.Full)

-- a name that may be declared beside those that are: well-formed and not reserved, then new
abbrev pub new_name : (Name → Bool) → List ℕ → Result Name LineCause
new_name known w = cond (is_name w) (cond (known (name_of w)) (Err C.Repeated) (Ok (name_of w))) (Err C.Name)

abbrev pub name_of_field : (Name → Bool) → ℕ → List ℕ → Result Name LineCause
name_of_field known n bs = and_then (one_field (split 9 bs)) (λ w. and_then (room 64 n) (λ _. new_name known w))

-- a name is declared, as a tag or as a point
abbrev pub declared : Content → Name → Bool
declared t n = member name_before n (t.tags ++ t.points)

-- the fault of a word is the line's
abbrev pub worded : {X : Type 0} → Result X WordFault → Result X LineCause
worded (Ok x) = Ok x
worded (Err e) = Err (C.Word e)

-- the fields of an order after its key word: an event, an effect and up to four conditions
abbrev pub few : List ℕ → List ℕ → List (List ℕ) → Result (List ℕ × List ℕ × List (List ℕ)) LineCause
few ev ef cs = cond (nat_le (length cs) 4) (Ok (ev, ef, cs)) (Err C.Fields)

abbrev pub order_fields : List (List ℕ) → Result (List ℕ × List ℕ × List (List ℕ)) LineCause
order_fields [] = Err C.Fields
order_fields (ev ∷ []) = Err C.Fields
order_fields (ev ∷ ef ∷ cs) = few ev ef cs

module _ (tags points : List Name) where
  -- the condition in the next field, whose number is k, if there is one
  abbrev pub optional : ℕ → List (List ℕ) → Result (Option Statement) WordFault
  optional k [] = Ok None
  optional k (c ∷ cs) = and_then (placed k (statement_of tags points c)) (λ s. Ok (Some s))

  -- four places, filled from the first on
  abbrev pub conditions_of : List (List ℕ) → Result (List (Option Statement)) WordFault
  conditions_of cs =
      and_then (optional 4 cs) (λ a.
      and_then (optional 5 (drop 1 cs)) (λ b.
      and_then (optional 6 (drop 1 (drop 1 cs))) (λ c.
      and_then (optional 7 (drop 1 (drop 1 (drop 1 cs)))) (λ d. Ok (a ∷ b ∷ c ∷ d ∷ [])))))

-- an order, unless a literal effect comes with a duty, or T is not bound
abbrev pub checked : Order → Result Order LineCause
checked o = cond (literal_apart o) (cond (t_bound o) (Ok o) (Err C.UnboundT)) (Err C.LiteralWithDuty)

-- field by field, then the order as a whole
abbrev pub order_of : Content → List ℕ → Result Order LineCause
order_of t bs =
    and_then (order_fields (split 9 bs)) (λ f.
    and_then (room 128 (length t.orders)) (λ _.
    and_then (worded (placed 2 (event_of t.tags t.points f.0))) (λ ev.
    and_then (worded (placed 3 (statement_of t.tags t.points f.1))) (λ ef.
    and_then (worded (conditions_of t.tags t.points f.2)) (λ cs.
    checked (record { event = ev; effect = ef; conditions = cs }))))))

-- the table after one more line
abbrev pub line_of : Content → List ℕ → Result Content LineCause
line_of t bs =
    by (past (codes "tag" ++ 9 ∷ []) bs) (λ rest. and_then (name_of_field (declared t) (length t.tags) rest) (λ n. Ok (with_tag t n)))
    (by (past (codes "point" ++ 9 ∷ []) bs) (λ rest. and_then (name_of_field (declared t) (length t.points) rest) (λ n. Ok (with_point t n)))
    (by (past (codes "order" ++ 9 ∷ []) bs) (λ rest. and_then (order_of t rest) (λ o. Ok (with_order t o)))
    (Err C.Fields)))
