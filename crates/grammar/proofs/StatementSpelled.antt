-- An effect or a condition is read as the grammar spells it, and refused by its first cause. Assumes nothing.
use Rattle.std.proofs.Common.{◌≡◌, ℕ, ltb, List, [], ◌∷◌, Ok, codes, sym, refl, ap, ◌∙◌, inl, inr, arith}
use Rattle.duties.specs.declared.order.Statement.{Statement}
use Rattle.duties.specs.declared.order.Statement.TheVariants as S
use Rattle.fields.specs.Fields.{by_words, duty_of, literal_of, statement_of}
use Rattle.fields.specs.Reading.{and_then}
use Rattle.names.specs.declared.name.Name.{Name}
use Rattle.text.specs.Split.{split}
use Rattle.grammar.specs.Grammar as G
use Rattle.grammar.specs.Grammar.{SpellsStatement}
use Rattle.grammar.specs.Reads.{StatementsAreReadAsSpelled}
use Rattle.grammar.specs.Shapes as H
use Rattle.grammar.specs.Shapes.{AStatementIsRefusedByItsFirstCause, DutyShape, StatementShape}
use Rattle.grammar.proofs.Causes.{Decided, Lacking, OrShaped, SomeShape, by_first_cause, by_shape, known_right, known_then, or_then}
use Rattle.grammar.proofs.DueSpelled.{due_word}
use Rattle.grammar.proofs.DutySpelled.{after_decided, after_or, duty_or, duty_read, duty_some}
use Rattle.grammar.proofs.LiteralSpelled.{literal_known, literal_or, literal_read, literal_some, literal_word}
use Rattle.grammar.proofs.Pieces.{Visible, by_front, joined, joined_split, none_past, split_two, split_word}
use Rattle.grammar.proofs.SetSpelled.{set_word}

module _ (tags points : List Name) where
  literal_said : (w : List ℕ) → Visible w → statement_of tags points w ≡ and_then (literal_of points w) (λ l. Ok (S.Literal l))
  literal_said w h = rw (none_past (ltb 32) (codes "no ") w refl h, split_word h)

  -- a duty has three words, and the first is not `no`
  duty_said : (bs : List ℕ) (n limit : ℕ) (ts ps : List (List ℕ)) → DutyShape bs n limit ts ps → statement_of tags points bs ≡ and_then (duty_of tags points bs) (λ p. Ok (S.Duty p))
  duty_said _ _ _ _ _ (H.scan {d} {w} h k) = let e = split_two {cs = d} {bs = w} (due_word h) (set_word k) in rw (e, e)
  duty_said _ _ _ _ _ (H.reach {d} {w} h k) = let e = split_two {cs = d} {bs = w} (due_word h) (literal_word k) in rw (e, e)
  duty_said _ _ _ _ _ (H.hold {d} {w} h k) = let e = split_two {cs = d} {bs = w} (due_word h) (literal_word k) in rw (e, e)

  words_or : (bs : List ℕ) (ws : List (List ℕ)) → split 32 bs ≡ ws → OrShaped (by_words tags points bs ws) (SomeShape (StatementShape bs))
  words_or bs [] e = inl refl
  words_or bs (w ∷ []) e =
      let q : bs ≡ w = sym (joined_split 32 bs) ∙ ap (joined 32) e in
      or_then (λ l. Ok (S.Literal l)) (λ (v, h). (0, 0, [], v ∷ [], rw q (H.of_literal h))) (literal_or points w)
  words_or bs (w ∷ v ∷ ws) e =
      or_then (λ p. Ok (S.Duty p)) (λ (n, limit, ts, ps, h). (n, limit, ts, ps, H.of_duty h)) (duty_or tags points bs)

  statement_or : (bs : List ℕ) → OrShaped (statement_of tags points bs) (SomeShape (StatementShape bs))
  statement_or bs =
      by_front (codes "no ") bs _ _ (λ b r. OrShaped r (SomeShape (StatementShape b))) (after_or tags points S.NoDuty (codes "no ") StatementShape (λ w n limit ts ps h. H.of_no_duty h))
      (words_or bs (split 32 bs) refl)

  statement_decided : (bs : List ℕ) (n limit : ℕ) (ts ps : List (List ℕ)) → StatementShape bs n limit ts ps → Decided (SpellsStatement tags points bs) n limit (Lacking tags points ts ps) (statement_of tags points bs)
  statement_decided bs _ _ _ _ (H.of_literal {w} {v} h) =
      rw (literal_said w (literal_word h)) (inr (omega arith, known_then S.Literal (λ l g. G.of_literal g) (known_right (literal_known points w v h))))
  statement_decided bs _ _ _ _ (H.of_duty {w} {n} {limit} {ts} {ps} h) =
      rw (duty_said w n limit ts ps h) (after_decided tags points S.Duty (SpellsStatement tags points bs) w n limit ts ps (λ p g. G.of_duty g) h)
  statement_decided bs _ _ _ _ (H.of_no_duty {w} {n} {limit} {ts} {ps} h) =
      after_decided tags points S.NoDuty (SpellsStatement tags points bs) w n limit ts ps (λ p g. G.of_no_duty g) h

  statement_read : (bs : List ℕ) (s : Statement) → SpellsStatement tags points bs s → statement_of tags points bs ≡ Ok s
  statement_read _ _ (G.of_literal {w} {l} h) = let (v, k) = literal_some points w l h in rw (literal_said w (literal_word k), literal_read points w l h)
  statement_read _ _ (G.of_duty {w} {p} h) = let (n, limit, ts, ps, k) = duty_some tags points w p h in rw (duty_said w n limit ts ps k, duty_read tags points w p h)
  statement_read _ _ (G.of_no_duty {w} {p} h) = rw (duty_read tags points w p h)

pub statements_spelled : StatementsAreReadAsSpelled
statements_spelled tags points bs s = (by_shape tags points (StatementShape bs) (SpellsStatement tags points bs) (statement_of tags points bs) (statement_or tags points bs) (statement_decided tags points bs) s, statement_read tags points bs s)

pub statements_refused : AStatementIsRefusedByItsFirstCause
statements_refused tags points bs = by_first_cause tags points (StatementShape bs) (SpellsStatement tags points bs) (statement_of tags points bs) (statement_or tags points bs) (statement_decided tags points bs)
