-- What the grammar spells has no tab and no line feed. Assumes nothing.
use Rattle.std.proofs.Common.{◌≡◌, ℕ, Bool, true, not, eqb, leb, ltb, List, ◌∷◌, ◌++◌, refl, arith}
use Rattle.std.proofs.lemmas.Bool.Decides.{nat_tests}
use Rattle.duties.specs.declared.order.Event.{Event}
use Rattle.duties.specs.declared.order.DutyPattern.{DutyPattern}
use Rattle.duties.specs.declared.order.Statement.{Statement}
use Rattle.names.specs.declared.name.Name.{Name}
use Rattle.text.specs.Spelling.{all, is_name}
use Rattle.grammar.specs.Grammar as G
use Rattle.grammar.specs.Grammar.{SpellsDuty, SpellsEvent, SpellsStatement}
use Rattle.grammar.specs.Shapes as H
use Rattle.grammar.specs.Shapes.{DutyShape}
use Rattle.grammar.proofs.DueSpelled.{due_word}
use Rattle.grammar.proofs.DutySpelled.{duty_some}
use Rattle.grammar.proofs.LiteralSpelled.{literal_some, literal_word}
use Rattle.grammar.proofs.Numbers.{name_visible}
use Rattle.grammar.proofs.Pieces.{Lacks, Visible, all_both, all_weaker, lacks_all}
use Rattle.grammar.proofs.SetSpelled.{set_shape, set_word}

-- a space, or a byte above it
abbrev pub Prints : List ℕ → Type 0
Prints bs = all (leb 32) bs ≡ true

pub no_tab : (bs : List ℕ) → Prints bs → Lacks 9 bs
no_tab bs h = lacks_all (leb 32) 9 bs refl h

-- no line feed, in bytes that may have tabs
abbrev pub one_line : ℕ → Bool
one_line b = not (eqb b 10)

pub no_feed : (bs : List ℕ) → Prints bs → all one_line bs ≡ true
no_feed bs h = all_weaker (leb 32) one_line (λ b k. grind (arith, nat_tests)) bs h

word_prints : (bs : List ℕ) → Visible bs → Prints bs
word_prints bs h = all_weaker (ltb 32) (leb 32) (λ b k. grind (arith, nat_tests)) bs h

pub name_prints : (w : List ℕ) → is_name w ≡ true → Prints w
name_prints w h = word_prints w (name_visible w h)

two_print : (d w : List ℕ) → Visible d → Visible w → Prints (d ++ 32 ∷ w)
two_print d w h k = all_both (leb 32) d (32 ∷ w) (word_prints d h) (word_prints w k)

shape_prints : {bs : List ℕ} {n limit : ℕ} {ts ps : List (List ℕ)} → DutyShape bs n limit ts ps → Prints bs
shape_prints (H.scan {d} {w} h k) = two_print d w (due_word h) (set_word k)
shape_prints (H.reach {d} {w} h k) = two_print d w (due_word h) (literal_word k)
shape_prints (H.hold {d} {w} h k) = two_print d w (due_word h) (literal_word k)

module _ {tags points : List Name} where
  duty_prints : {bs : List ℕ} {p : DutyPattern} → SpellsDuty tags points bs p → Prints bs
  duty_prints {bs} {p} h = let (n, limit, ts, ps, k) = duty_some tags points bs p h in shape_prints k

  pub event_prints : {bs : List ℕ} {e : Event} → SpellsEvent tags points bs e → Prints bs
  event_prints (G.of_tags {w} {s} h) = let (ns, k, _) = set_shape tags w s h in word_prints w (set_word k)
  event_prints (G.when_met h) = duty_prints h
  event_prints (G.when_failed h) = duty_prints h

  pub statement_prints : {bs : List ℕ} {s : Statement} → SpellsStatement tags points bs s → Prints bs
  statement_prints (G.of_literal {w} {l} h) = let (v, k) = literal_some points w l h in word_prints w (literal_word k)
  statement_prints (G.of_duty h) = duty_prints h
  statement_prints (G.of_no_duty h) = duty_prints h
