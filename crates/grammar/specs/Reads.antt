-- That what is read is exactly what the grammar spells, both ways. Assumes nothing.
use Rattle.std.specs.Prelude.{◌≡◌, ℕ, true, ◌↔◌, List, Ok}
use Rattle.duties.specs.declared.duty.Literal.{Literal}
use Rattle.duties.specs.declared.order.Due.{Due}
use Rattle.duties.specs.declared.order.DutyPattern.{DutyPattern}
use Rattle.duties.specs.declared.order.Event.{Event}
use Rattle.duties.specs.declared.order.Statement.{Statement}
use Rattle.fields.specs.Dues.{due_of, form_of}
use Rattle.fields.specs.Fields.{duty_of, event_of, literal_of, read_set, statement_of}
use Rattle.fields.specs.Reading.{and_then, shaped}
use Rattle.names.specs.declared.name.Name.{Name}
use Rattle.text.specs.Spelling.{is_name, numeral}
use Rattle.text.specs.Tokens.{name, number, class_of, parts}
use Rattle.grammar.specs.Grammar.{SpellsDue, SpellsDuty, SpellsEvent, SpellsLiteral, SpellsSet, SpellsStatement, tag_set}

abbrev pub NamesAreToldBySpelling : Type 0
NamesAreToldBySpelling = (w : List ℕ) → (class_of w ≡ name w) ↔ (is_name w ≡ true)

abbrev pub NumbersAreToldBySpelling : Type 0
NumbersAreToldBySpelling = (w : List ℕ) → (class_of w ≡ number w) ↔ (numeral w ≡ true)

abbrev pub DuesAreReadAsSpelled : Type 0
DuesAreReadAsSpelled = (bs : List ℕ) (u : Due) → (and_then (shaped (form_of (parts bs))) due_of ≡ Ok u) ↔ SpellsDue bs u

abbrev pub SetsAreReadAsSpelled : Type 0
SetsAreReadAsSpelled = (tags : List Name) (bs : List ℕ) (s : ℕ) → (read_set tags bs ≡ Ok (tag_set s)) ↔ SpellsSet tags bs s

abbrev pub LiteralsAreReadAsSpelled : Type 0
LiteralsAreReadAsSpelled = (points : List Name) (bs : List ℕ) (l : Literal) → (literal_of points bs ≡ Ok l) ↔ SpellsLiteral points bs l

abbrev pub DutiesAreReadAsSpelled : Type 0
DutiesAreReadAsSpelled =
    (tags points : List Name) (bs : List ℕ) (p : DutyPattern) → (duty_of tags points bs ≡ Ok p) ↔ SpellsDuty tags points bs p

abbrev pub EventsAreReadAsSpelled : Type 0
EventsAreReadAsSpelled =
    (tags points : List Name) (bs : List ℕ) (e : Event) → (event_of tags points bs ≡ Ok e) ↔ SpellsEvent tags points bs e

abbrev pub StatementsAreReadAsSpelled : Type 0
StatementsAreReadAsSpelled =
    (tags points : List Name) (bs : List ℕ) (s : Statement) → (statement_of tags points bs ≡ Ok s) ↔ SpellsStatement tags points bs s
