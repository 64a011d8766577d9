-- What is read fits what is declared, since what is spelled does. Assumes nothing.
use Rattle.std.proofs.Common.{◌≡◌, ℕ, ◌^◌, ◌<◌, ◌≤◌, true, List, length, Ok, arith}
use lib.Bits.{or_add_and, and_le_l}
use Rattle.std.proofs.lemmas.Nat.{or_lt, pow_below, pow_pos}
use Rattle.std.proofs.lemmas.Bool.Decides.{nat_tests}
use Rattle.duties.specs.declared.duty.Literal.{Literal}
use Rattle.duties.specs.declared.order.Due.{Due}
use Rattle.duties.specs.declared.order.DutyPattern.{DutyPattern}
use Rattle.duties.specs.declared.order.Event.{Event}
use Rattle.duties.specs.declared.order.Statement.{Statement}
use Rattle.duties.specs.Ranges.{due_fits, event_fits, literal_fits, pattern_fits, set_fits, statement_fits}
use Rattle.duties.specs.Sets.{adding}
use Rattle.fields.specs.Fields.{event_of, statement_of}
use Rattle.names.specs.declared.name.Name.{Name}
use Rattle.grammar.specs.Grammar as G
use Rattle.grammar.specs.Grammar.{SpellsDue, SpellsDuty, SpellsEvent, SpellsLiteral, SpellsSet, SpellsStatement}
use Rattle.grammar.proofs.EventSpelled.{events_spelled}
use Rattle.grammar.proofs.StatementSpelled.{statements_spelled}

module _ (tags points : List Name) where
  abbrev t : ℕ
  t = length tags

  abbrev q : ℕ
  q = length points

  spelled_due : {bs : List ℕ} {u : Due} → SpellsDue bs u → due_fits t q u ≡ true
  spelled_due h = grind (arith, nat_tests)

  spelled_literal : {bs : List ℕ} {l : Literal} → SpellsLiteral points bs l → literal_fits t q l ≡ true
  spelled_literal h = grind (arith, nat_tests)

  -- with 64 tags or fewer
  module _ (few : t ≤ 64) where
    -- not empty, and all its tags declared
    abbrev Within : ℕ → Type 0
    Within s = (0 < s) × (s < 2 ^ t)

    -- one more member
    adding_within : (m n : ℕ) → m < 2 ^ t → n < t → Within (adding m n)
    adding_within m n small lt =
        let k = or_lt t m (2 ^ n) small (pow_below n t lt) in
        let a = or_add_and m (2 ^ n) in
        let b = and_le_l m (2 ^ n) in
        let c = pow_pos n in
        grind (arith, nat_tests)

    spelled_within : {bs : List ℕ} {s : ℕ} → SpellsSet tags bs s → Within s
    spelled_within (G.one_tag {w} {n} h) = adding_within 0 n (pow_pos t) h.1.0
    spelled_within (G.and_tag {ws} {s} {n} g w h) = adding_within s n (spelled_within g).1 h.1.0

    spelled_set : {bs : List ℕ} {s : ℕ} → SpellsSet tags bs s → set_fits t q s ≡ true
    spelled_set h = let w = spelled_within h in grind (arith, nat_tests)

    spelled_duty : {bs : List ℕ} {d : DutyPattern} → SpellsDuty tags points bs d → pattern_fits t q d ≡ true
    spelled_duty h = grind (arith, nat_tests, spelled_due, spelled_set, spelled_literal)

    spelled_event : {bs : List ℕ} {e : Event} → SpellsEvent tags points bs e → event_fits t q e ≡ true
    spelled_event h = grind (arith, nat_tests, spelled_set, spelled_duty)

    spelled_statement : {bs : List ℕ} {s : Statement} → SpellsStatement tags points bs s → statement_fits t q s ≡ true
    spelled_statement h = grind (arith, nat_tests, spelled_literal, spelled_duty)

    pub event_fit : (bs : List ℕ) (e : Event) → event_of tags points bs ≡ Ok e → event_fits t q e ≡ true
    event_fit bs e h = spelled_event ((events_spelled tags points bs e).0 h)

    pub statement_fit : (bs : List ℕ) (s : Statement) → statement_of tags points bs ≡ Ok s → statement_fits t q s ≡ true
    statement_fit bs s h = spelled_statement ((statements_spelled tags points bs s).0 h)
