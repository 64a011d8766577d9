-- An event is read as the grammar spells it, and refused by its first cause. Assumes nothing.
use Rattle.std.proofs.Common.{◌≡◌, ℕ, ltb, List, [], Ok, codes, refl, inr, arith}
use Rattle.duties.specs.declared.order.Event.{Event}
use Rattle.duties.specs.declared.order.Event.TheVariants as E
use Rattle.duties.specs.declared.sets.TagSet.{TagSet}
use Rattle.fields.specs.Fields.{event_of, read_set}
use Rattle.fields.specs.Reading.{and_then}
use Rattle.names.specs.declared.name.Name.{Name}
use Rattle.grammar.specs.Grammar as G
use Rattle.grammar.specs.Grammar.{SpellsEvent}
use Rattle.grammar.specs.Reads.{EventsAreReadAsSpelled}
use Rattle.grammar.specs.Shapes as H
use Rattle.grammar.specs.Shapes.{AnEventIsRefusedByItsFirstCause, EventShape}
use Rattle.grammar.proofs.Causes.{Decided, Lacking, OrShaped, SomeShape, by_first_cause, by_shape, known_left, known_then, or_then}
use Rattle.grammar.proofs.DutySpelled.{after_decided, after_or, duty_read}
use Rattle.grammar.proofs.Pieces.{Visible, by_front, none_past}
use Rattle.grammar.proofs.SetSpelled.{set_read, set_read_known, set_read_or, set_shape, set_word}

module _ (tags points : List Name) where
  -- one word has no key word before it
  tags_said : (w : List ℕ) → Visible w → event_of tags points w ≡ and_then (read_set tags w) (λ s. Ok (E.Tags s))
  tags_said w h = rw (none_past (ltb 32) (codes "met ") w refl h, none_past (ltb 32) (codes "failed ") w refl h)

  event_or : (bs : List ℕ) → OrShaped (event_of tags points bs) (SomeShape (EventShape bs))
  event_or bs =
      by_front (codes "met ") bs _ _ (λ b r. OrShaped r (SomeShape (EventShape b))) (after_or tags points E.Met (codes "met ") EventShape (λ w n limit ts ps h. H.when_met h))
      (by_front (codes "failed ") bs _ _ (λ b r. OrShaped r (SomeShape (EventShape b))) (after_or tags points E.Failed (codes "failed ") EventShape (λ w n limit ts ps h. H.when_failed h))
      (or_then (λ s. Ok (E.Tags s)) (λ (ns, h). (0, 0, ns, [], H.of_tags h)) (set_read_or tags bs)))

  event_decided : (bs : List ℕ) (n limit : ℕ) (ts ps : List (List ℕ)) → EventShape bs n limit ts ps → Decided (SpellsEvent tags points bs) n limit (Lacking tags points ts ps) (event_of tags points bs)
  event_decided bs _ _ _ _ (H.of_tags {w} {ns} h) =
      rw (tags_said w (set_word h)) (inr (omega arith, known_then E.Tags (λ (s : TagSet) g. G.of_tags g) (known_left (set_read_known tags w ns h))))
  event_decided bs _ _ _ _ (H.when_met {w} {n} {limit} {ts} {ps} h) = after_decided tags points E.Met (SpellsEvent tags points bs) w n limit ts ps (λ p g. G.when_met g) h
  event_decided bs _ _ _ _ (H.when_failed {w} {n} {limit} {ts} {ps} h) = after_decided tags points E.Failed (SpellsEvent tags points bs) w n limit ts ps (λ p g. G.when_failed g) h

  event_read : (bs : List ℕ) (e : Event) → SpellsEvent tags points bs e → event_of tags points bs ≡ Ok e
  event_read _ _ (G.of_tags {w} {s} h) = let (ns, k, _) = set_shape tags w s h in rw (tags_said w (set_word k), set_read tags w s h)
  event_read _ _ (G.when_met {w} {p} h) = rw (duty_read tags points w p h)
  event_read _ _ (G.when_failed {w} {p} h) = rw (duty_read tags points w p h)

pub events_spelled : EventsAreReadAsSpelled
events_spelled tags points bs e = (by_shape tags points (EventShape bs) (SpellsEvent tags points bs) (event_of tags points bs) (event_or tags points bs) (event_decided tags points bs) e, event_read tags points bs e)

pub events_refused : AnEventIsRefusedByItsFirstCause
events_refused tags points bs = by_first_cause tags points (EventShape bs) (SpellsEvent tags points bs) (event_of tags points bs) (event_or tags points bs) (event_decided tags points bs)
