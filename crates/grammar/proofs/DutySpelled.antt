-- A duty is read as the grammar spells it, and why it is refused. Assumes nothing.
use Rattle.std.proofs.Common.{◌≡◌, ℕ, List, [], ◌∷◌, ◌++◌, Ok, codes, Result, sym, refl, ap, ◌∙◌, inl, inr}
use Rattle.duties.specs.declared.duty.Literal.{Literal}
use Rattle.duties.specs.declared.duty.Task.{Task}
use Rattle.duties.specs.declared.duty.Task.TheVariants as K
use Rattle.duties.specs.declared.order.Due.{Due}
use Rattle.duties.specs.declared.order.DutyPattern.{DutyPattern}
use Rattle.duties.specs.declared.sets.TagSet.{TagSet}
use Rattle.fields.specs.declared.fault.Cause.{Cause}
use Rattle.fields.specs.Dues.{due_of, form_of}
use Rattle.fields.specs.Fields.{duty_of, literal_of, literal_shape, named, on_literal, pattern, scan_of, tags_of, word_pair}
use Rattle.fields.specs.Reading.{and_then, shaped}
use Rattle.names.specs.declared.name.Name.{Name}
use Rattle.text.specs.Split.{split}
use Rattle.text.specs.Tokens.{parts}
use Rattle.grammar.specs.Grammar as G
use Rattle.grammar.specs.Grammar.{SpellsDue, SpellsDuty, SpellsLiteral, SpellsSet, tag_set}
use Rattle.grammar.specs.Reads.{DutiesAreReadAsSpelled}
use Rattle.grammar.specs.Shapes as H
use Rattle.grammar.specs.Shapes.{DueShape, DutyShape, LiteralShape}
use Rattle.grammar.proofs.Causes.{Decided, Known, Lacking, OrShaped, SomeShape, by_shape, decided_both, decided_then, known_left, known_right, or_then, then_ok}
use Rattle.grammar.proofs.DueSpelled.{SomeDue, due_limited, due_or, due_read, due_some, due_word}
use Rattle.grammar.proofs.LiteralSpelled.{SomeLiteral, literal_known, literal_read, literal_shape_or, literal_shaped, literal_some, literal_word}
use Rattle.grammar.proofs.Pieces.{Visible, by_front, joined, joined_split, split_two}
use Rattle.grammar.proofs.SetSpelled.{SomeSet, set_known, set_named, set_or, set_shape, set_word}

-- two words, each of its shape
abbrev TwoShapes : (List ℕ → Type 0) → List ℕ → Type 0
TwoShapes S bs = (d w : List ℕ) × (bs ≡ d ++ 32 ∷ w) × SomeDue d × S w

-- two words, a due and another: the shape of both, then what they say
module _ {V Y : Type 0} (s : List ℕ → Result (Unit {0}) Cause) (q : List ℕ → Result V Cause) (g : Due → V → Y) where
  abbrev turn_of : List ℕ → List ℕ → Result Y Cause
  turn_of d w = and_then (shaped (form_of (parts d))) (λ f. and_then (s w) (λ _. and_then (due_of f) (λ u. and_then (q w) (λ v. Ok (g u v)))))

  abbrev two_of : List ℕ → Result Y Cause
  two_of bs = and_then (word_pair (split 32 bs)) (λ w. turn_of w.0 w.1)

  module _ (S : List ℕ → Type 0) (s_or : (w : List ℕ) → OrShaped (s w) (S w)) where
    both_or : (bs d w : List ℕ) → split 32 bs ≡ d ∷ w ∷ [] → OrShaped (turn_of d w) (TwoShapes S bs)
    both_or bs d w e =
        elim (due_or d) [
          | inl k ↦ inl (rw k)
          | inr (n, limit, h) ↦ elim (s_or w) [
            | inl k ↦ let (f, i, _) = due_limited d n limit h in inl (rw (i, k))
            | inr k ↦ inr (d, w, sym (joined_split 32 bs) ∙ ap (joined 32) e, (n, limit, h), k)
          ]
        ]

    words_or : (bs : List ℕ) (ws : List (List ℕ)) → split 32 bs ≡ ws → OrShaped (and_then (word_pair ws) (λ w. turn_of w.0 w.1)) (TwoShapes S bs)
    words_or bs (d ∷ w ∷ []) e = both_or bs d w e
    words_or bs ws e = inl refl

    two_or : (bs : List ℕ) → OrShaped (two_of bs) (TwoShapes S bs)
    two_or bs = words_or bs (split 32 bs) refl

  two_decided : {R : V → Type 0} {Lack : Type 0} (T : Y → Type 0) (d w : List ℕ) (n limit : ℕ) → ((u : Due) (v : V) → SpellsDue d u → R v → T (g u v)) → DueShape d n limit → Visible w → s w ≡ Ok tt → Known R Lack (q w) → Decided T n limit Lack (two_of (d ++ 32 ∷ w))
  two_decided T d w n limit each h one k l =
      let (f, e, m) = due_limited d n limit h in
      rw (split_two (due_word h) one, e, k) (decided_both g each m l)

  two_read : (d w : List ℕ) (u : Due) (v : V) → SpellsDue d u → Visible w → s w ≡ Ok tt → q w ≡ Ok v → two_of (d ++ 32 ∷ w) ≡ Ok (g u v)
  two_read d w u v h one k e =
      let (n, limit, c) = due_some d u h in
      let (f, a, b) = then_ok (shaped (form_of (parts d))) due_of u (due_read d u h) in
      rw (split_two (due_word c) one, a, k, b, e)

module _ (tags points : List Name) where
  abbrev SomeDuty : List ℕ → Type 0
  SomeDuty bs = SomeShape (DutyShape bs)

  -- a duty on a literal
  abbrev on_one : (Literal → Task) → List ℕ → Result DutyPattern Cause
  on_one make bs = and_then (on_literal points bs) (λ q. Ok (pattern q.0 (make q.1)))

  scan_or : (r : List ℕ) → OrShaped (scan_of tags r) (SomeDuty (codes "scan " ++ r))
  scan_or r =
      elim (two_or (λ w. named (parts w)) (λ w. tags_of tags 0 (parts w)) (λ u s. pattern u (K.Scan s)) SomeSet set_or r) [
        | inl k ↦ inl k
        | inr (d, w, e, (n, limit, h), (ns, j)) ↦ inr (n, limit, ns, [], rw e (H.scan h j))
      ]

  one_or : (front : List ℕ) (make : Literal → Task) → ((d w v : List ℕ) (n limit : ℕ) → DueShape d n limit → LiteralShape w v → DutyShape (front ++ (d ++ 32 ∷ w)) n limit [] (v ∷ [])) → (r : List ℕ) → OrShaped (on_one make r) (SomeDuty (front ++ r))
  one_or front make each r =
      or_then (λ (q : Due × Literal). Ok (pattern q.0 (make q.1))) (λ (d, w, e, (n, limit, h), (v, j)). (n, limit, [], v ∷ [], rw e (each d w v n limit h j)))
      (two_or literal_shape (literal_of points) (λ u l. (u, l)) SomeLiteral (literal_shape_or points) r)

  pub duty_or : (bs : List ℕ) → OrShaped (duty_of tags points bs) (SomeDuty bs)
  duty_or bs =
      by_front (codes "scan ") bs _ _ (λ b r. OrShaped r (SomeDuty b)) scan_or
      (by_front (codes "reach ") bs _ _ (λ b r. OrShaped r (SomeDuty b)) (one_or (codes "reach ") K.Reach (λ d w v n limit h j. H.reach h j))
      (by_front (codes "hold ") bs _ _ (λ b r. OrShaped r (SomeDuty b)) (one_or (codes "hold ") K.Hold (λ d w v n limit h j. H.hold h j))
      (inl refl)))

  task_decided : (T : DutyPattern → Type 0) (make : Literal → Task) (d w v : List ℕ) (n limit : ℕ) → ((u : Due) (l : Literal) → SpellsDue d u → SpellsLiteral points w l → T (pattern u (make l))) → DueShape d n limit → LiteralShape w v → Decided T n limit (Lacking tags points [] (v ∷ [])) (on_one make (d ++ 32 ∷ w))
  task_decided T make d w v n limit each h k =
      decided_then (λ (q : Due × Literal). pattern q.0 (make q.1)) (λ (q : Due × Literal) t. each q.0 q.1 t.0 t.1)
      (two_decided literal_shape (literal_of points) (λ u l. (u, l)) (λ (q : Due × Literal). SpellsDue d q.0 × SpellsLiteral points w q.1) d w n limit (λ u l a b. (a, b)) h (literal_word k) (literal_shaped w v k) (known_right (literal_known points w v k)))

  pub duty_decided : (bs : List ℕ) (n limit : ℕ) (ts ps : List (List ℕ)) → DutyShape bs n limit ts ps → Decided (SpellsDuty tags points bs) n limit (Lacking tags points ts ps) (duty_of tags points bs)
  duty_decided bs _ _ _ _ (H.scan {d} {w} {n} {limit} {ns} h k) =
      two_decided (λ w. named (parts w)) (λ w. tags_of tags 0 (parts w)) (λ u s. pattern u (K.Scan s)) (SpellsDuty tags points bs) d w n limit (λ u (s : TagSet) a b. G.scan a b) h (set_word k) (set_named w ns k) (known_left (set_known tags w ns k))
  duty_decided bs _ _ _ _ (H.reach {d} {w} {v} {n} {limit} h k) = task_decided (SpellsDuty tags points bs) K.Reach d w v n limit (λ u l a b. G.reach a b) h k
  duty_decided bs _ _ _ _ (H.hold {d} {w} {v} {n} {limit} h k) = task_decided (SpellsDuty tags points bs) K.Hold d w v n limit (λ u l a b. G.hold a b) h k

  duty_spelled : (bs : List ℕ) (p : DutyPattern) → duty_of tags points bs ≡ Ok p → SpellsDuty tags points bs p
  duty_spelled bs = by_shape tags points (DutyShape bs) (SpellsDuty tags points bs) (duty_of tags points bs) (duty_or bs) (duty_decided bs)

  task_read : (make : Literal → Task) (d w : List ℕ) (u : Due) (l : Literal) → SpellsDue d u → SpellsLiteral points w l → on_one make (d ++ 32 ∷ w) ≡ Ok (pattern u (make l))
  task_read make d w u l h k =
      let (v, c) = literal_some points w l k in
      rw (two_read {Y = Due × Literal} literal_shape (literal_of points) (λ u l. (u, l)) d w u l h (literal_word c) (literal_shaped w v c) (literal_read points w l k))

  pub duty_read : (bs : List ℕ) (p : DutyPattern) → SpellsDuty tags points bs p → duty_of tags points bs ≡ Ok p
  duty_read _ _ (G.scan {d} {w} {u} {s} h k) =
      let (ns, c, e) = set_shape tags w s k in
      two_read (λ w. named (parts w)) (λ w. tags_of tags 0 (parts w)) (λ u s. pattern u (K.Scan s)) d w u (tag_set s) h (set_word c) (set_named w ns c) e
  duty_read _ _ (G.reach {d} {w} {u} {l} h k) = task_read K.Reach d w u l h k
  duty_read _ _ (G.hold {d} {w} {u} {l} h k) = task_read K.Hold d w u l h k

  -- what is spelled has a shape
  pub duty_some : (bs : List ℕ) (p : DutyPattern) → SpellsDuty tags points bs p → SomeDuty bs
  duty_some _ _ (G.scan {d} {w} {u} {s} h k) = let (n, limit, c) = due_some d u h in let (ns, j, _) = set_shape tags w s k in (n, limit, ns, [], H.scan c j)
  duty_some _ _ (G.reach {d} {w} {u} {l} h k) = let (n, limit, c) = due_some d u h in let (v, j) = literal_some points w l k in (n, limit, [], v ∷ [], H.reach c j)
  duty_some _ _ (G.hold {d} {w} {u} {l} h k) = let (n, limit, c) = due_some d u h in let (v, j) = literal_some points w l k in (n, limit, [], v ∷ [], H.hold c j)

  -- after a key word: a duty
  module _ {Y : Type 0} (make : DutyPattern → Y) where
    pub after_or : (front : List ℕ) (Shaped : List ℕ → ℕ → ℕ → List (List ℕ) → List (List ℕ) → Type 0) → ((w : List ℕ) (n limit : ℕ) (ts ps : List (List ℕ)) → DutyShape w n limit ts ps → Shaped (front ++ w) n limit ts ps) → (r : List ℕ) → OrShaped (and_then (duty_of tags points r) (λ p. Ok (make p))) (SomeShape (Shaped (front ++ r)))
    after_or front Shaped each r = or_then (λ p. Ok (make p)) (λ (n, limit, ts, ps, h). (n, limit, ts, ps, each r n limit ts ps h)) (duty_or r)

    pub after_decided : (T : Y → Type 0) (w : List ℕ) (n limit : ℕ) (ts ps : List (List ℕ)) → ((p : DutyPattern) → SpellsDuty tags points w p → T (make p)) → DutyShape w n limit ts ps → Decided T n limit (Lacking tags points ts ps) (and_then (duty_of tags points w) (λ p. Ok (make p)))
    after_decided T w n limit ts ps each h = decided_then make each (duty_decided w n limit ts ps h)

pub duties_spelled : DutiesAreReadAsSpelled
duties_spelled tags points bs p = (duty_spelled tags points bs p, duty_read tags points bs p)
