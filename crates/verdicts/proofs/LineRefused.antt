-- A line declares something or is refused by its first cause, and it is read so. Assumes nothing.
use Rattle.std.proofs.Common.{◌≡◌, ℕ, ◌+◌, ◌<◌, ◌≤◌, ltb, true, false, ◌⊎◌, ◌↔◌, List, ◌∷◌, ◌++◌, length, Ok, Err, Result, sym, refl, ◌∙◌, subst, inl, inr}
use Rattle.std.proofs.lemmas.Bool.{cases_Bool, le-ltb, lt-ltb, ltb-false, ltb-true}
use Rattle.std.specs.List.{AllByRecursion}
use Rattle.duties.specs.declared.order.Event.{Event}
use Rattle.duties.specs.declared.order.Statement.{Statement}
use Rattle.duties.specs.Ranges.{literal_apart, t_bound}
use Rattle.fields.specs.declared.fault.Cause.{Cause}
use Rattle.fields.specs.Fields.{event_of, statement_of}
use Rattle.fields.specs.Reading.{and_then}
use Rattle.names.specs.Names.{name_of}
use Rattle.sheets.specs.Sheets.{Content, with_order, with_point, with_tag}
use Rattle.text.specs.Spelling.{is_name}
use Rattle.lines.specs.declared.fault.LineCause.{LineCause}
use Rattle.lines.specs.declared.fault.LineCause.TheVariants as C
use Rattle.lines.specs.Lines.{checked, declared, line_of}
use Rattle.grammar.specs.Grammar.{SpellsEvent, SpellsStatement}
use Rattle.grammar.proofs.EventSpelled.{events_refused, events_spelled}
use Rattle.grammar.proofs.StatementSpelled.{statements_refused, statements_spelled}
use Rattle.verdicts.specs.Declares.{DeclaresLine, SpellsEach, no_field, and_field, a_tag, a_point, an_order, ordered_so}
use Rattle.verdicts.specs.Refused as R
use Rattle.verdicts.specs.Refused.{IsRecord, OrderFields, RefusesLine, Tabless, order_bytes}
use Rattle.verdicts.proofs.Bytes.{event_prints, name_prints, statement_prints}
use Rattle.verdicts.proofs.Conditions.{conditions_bad, conditions_read, conditions_told}
use Rattle.verdicts.proofs.LineFields.{fields_read, one_read, prints_tabless, record_read, sorted}

module _ (t : Content) where
  each_tabless : {cs : List (List ℕ)} {ss : List Statement} → SpellsEach t.tags t.points cs ss → AllByRecursion Tabless cs
  each_tabless no_field = tt
  each_tabless (and_field {f} h hs) = (prints_tabless f (statement_prints h), each_tabless hs)

  -- what is spelled may be a field
  spelled_fields : {ev ef : List ℕ} {cs : List (List ℕ)} {e : Event} {f : Statement} {ss : List Statement} → SpellsEvent t.tags t.points ev e → SpellsStatement t.tags t.points ef f → SpellsEach t.tags t.points cs ss → length cs ≤ 4 → OrderFields ev ef cs
  spelled_fields {ev} {ef} h k hs le = (prints_tabless ev (event_prints h), prints_tabless ef (statement_prints k), each_tabless hs, le)

  -- an order whose words are all spelled
  order_read : {ev ef : List ℕ} {cs : List (List ℕ)} {e : Event} {f : Statement} {ss : List Statement} → SpellsEvent t.tags t.points ev e → SpellsStatement t.tags t.points ef f → SpellsEach t.tags t.points cs ss → length cs ≤ 4 → length t.orders < 128 → line_of t (order_bytes ev ef cs) ≡ and_then (checked (ordered_so e f ss)) (λ o. Ok (with_order t o))
  order_read {ev} {ef} {cs} {e} {f} {ss} h k hs le lt =
      rw (fields_read ev ef cs (spelled_fields h k hs le), lt-ltb (length t.orders) 128 lt, (events_spelled t.tags t.points ev e).1 h, (statements_spelled t.tags t.points ef f).1 k, conditions_read t.tags t.points cs ss le hs)

  declared_line : {l : List ℕ} {u : Content} → DeclaresLine t l u → line_of t l ≡ Ok u
  declared_line (a_tag {w} is new lt) = rw (one_read w (prints_tabless w (name_prints w is)), lt-ltb (length t.tags) 64 lt, is, new)
  declared_line (a_point {w} is new lt) = rw (one_read w (prints_tabless w (name_prints w is)), lt-ltb (length t.points) 64 lt, is, new)
  declared_line (an_order h k hs le lt apart bound) = order_read h k hs le lt ∙ rw (apart, bound)

  refused_line : {l : List ℕ} {c : LineCause} → RefusesLine t l c → line_of t l ≡ Err c
  refused_line (R.no_record {l} h) = elim (sorted t l) [ inl r ↦ absurd (h r) | inr e ↦ e ]
  refused_line (R.full_of_tags {w} h k) = rw (one_read w h, le-ltb (length t.tags) 64 k)
  refused_line (R.ill_named_tag {w} h k is) = rw (one_read w h, lt-ltb (length t.tags) 64 k, is)
  refused_line (R.repeated_tag {w} k is known) = rw (one_read w (prints_tabless w (name_prints w is)), lt-ltb (length t.tags) 64 k, is, known)
  refused_line (R.full_of_points {w} h k) = rw (one_read w h, le-ltb (length t.points) 64 k)
  refused_line (R.ill_named_point {w} h k is) = rw (one_read w h, lt-ltb (length t.points) 64 k, is)
  refused_line (R.repeated_point {w} k is known) = rw (one_read w (prints_tabless w (name_prints w is)), lt-ltb (length t.points) 64 k, is, known)
  refused_line (R.full_of_orders ev ef cs h k) = rw (fields_read ev ef cs h, le-ltb (length t.orders) 128 k)
  refused_line (R.bad_event ev ef cs {k = j} h k bad) =
      rw (fields_read ev ef cs h, lt-ltb (length t.orders) 128 k, (events_refused t.tags t.points ev j).1 bad)
  refused_line (R.bad_effect {ev} {e} ef cs {k = j} h k a bad) =
      rw (fields_read ev ef cs h, lt-ltb (length t.orders) 128 k, (events_spelled t.tags t.points ev e).1 a, (statements_refused t.tags t.points ef j).1 bad)
  refused_line (R.bad_condition {ev} {ef} {e} {f} {cs} c more {k = j} h k a b each bad) =
      rw (fields_read ev ef (cs ++ c ∷ more) h, lt-ltb (length t.orders) 128 k, (events_spelled t.tags t.points ev e).1 a, (statements_spelled t.tags t.points ef f).1 b, conditions_bad t.tags t.points c more j h.3 each ((statements_refused t.tags t.points c j).1 bad))
  refused_line (R.literal_with_duty h k hs le lt apart) = order_read h k hs le lt ∙ rw apart
  refused_line (R.t_not_bound h k hs le lt apart bound) = order_read h k hs le lt ∙ rw (apart, bound)

  -- a line declares something, or there is a cause
  abbrev Judged : List ℕ → Type 0
  Judged l = ((u : Content) × DeclaresLine t l u) ⊎ ((c : LineCause) × RefusesLine t l c)

  -- a name that is to be the next of n
  name_judged : (l w : List ℕ) (n : ℕ) (u : Content) → (64 ≤ n → RefusesLine t l C.Full) → (n < 64 → is_name w ≡ false → RefusesLine t l C.Name) → (n < 64 → is_name w ≡ true → declared t (name_of w) ≡ true → RefusesLine t l C.Repeated) → (n < 64 → is_name w ≡ true → declared t (name_of w) ≡ false → DeclaresLine t l u) → Judged l
  name_judged l w n u full ill repeated new =
      elim (cases_Bool (ltb n 64)) [
        | inl k ↦
            let lt = ltb-true n 64 k in
            elim (cases_Bool (is_name w)) [
              | inl is ↦ elim (cases_Bool (declared t (name_of w))) [ inl e ↦ inr (C.Repeated, repeated lt is e) | inr e ↦ inl (u, new lt is e) ]
              | inr is ↦ inr (C.Name, ill lt is)
            ]
        | inr k ↦ inr (C.Full, full (ltb-false n 64 k))
      ]

  module _ (ev ef : List ℕ) (cs : List (List ℕ)) (h : OrderFields ev ef cs) where
    whole_judged : (e : Event) (f : Statement) (ss : List Statement) → length t.orders < 128 → SpellsEvent t.tags t.points ev e → SpellsStatement t.tags t.points ef f → SpellsEach t.tags t.points cs ss → Judged (order_bytes ev ef cs)
    whole_judged e f ss lt a b each =
        elim (cases_Bool (literal_apart (ordered_so e f ss))) [
          | inl apart ↦
              elim (cases_Bool (t_bound (ordered_so e f ss))) [
                | inl bound ↦ inl (with_order t (ordered_so e f ss), an_order a b each h.3 lt apart bound)
                | inr bound ↦ inr (C.UnboundT, R.t_not_bound a b each h.3 lt apart bound)
              ]
          | inr apart ↦ inr (C.LiteralWithDuty, R.literal_with_duty a b each h.3 lt apart)
        ]

    conditions_judged : (e : Event) (f : Statement) → length t.orders < 128 → SpellsEvent t.tags t.points ev e → SpellsStatement t.tags t.points ef f → Judged (order_bytes ev ef cs)
    conditions_judged e f lt a b =
        elim (conditions_told t.tags t.points cs) [
          | inl (ss, each) ↦ whole_judged e f ss lt a b each
          | inr (done, ss, c, more, k, is, each, bad) ↦
              inr (C.Word (record { field = length done + 4; cause = k }), subst (λ ds. RefusesLine t (order_bytes ev ef ds) (C.Word (record { field = length done + 4; cause = k }))) (sym is) (R.bad_condition c more (subst (OrderFields ev ef) is h) lt a b each ((statements_refused t.tags t.points c k).0 bad)))
        ]

    effect_judged : (e : Event) (r : Result Statement Cause) → statement_of t.tags t.points ef ≡ r → length t.orders < 128 → SpellsEvent t.tags t.points ev e → Judged (order_bytes ev ef cs)
    effect_judged e (Ok f) b lt a = conditions_judged e f lt a ((statements_spelled t.tags t.points ef f).0 b)
    effect_judged e (Err k) b lt a = inr (C.Word (record { field = 3; cause = k }), R.bad_effect ef cs h lt a ((statements_refused t.tags t.points ef k).0 b))

    event_judged : (r : Result Event Cause) → event_of t.tags t.points ev ≡ r → length t.orders < 128 → Judged (order_bytes ev ef cs)
    event_judged (Ok e) a lt = effect_judged e (statement_of t.tags t.points ef) refl lt ((events_spelled t.tags t.points ev e).0 a)
    event_judged (Err k) a lt = inr (C.Word (record { field = 2; cause = k }), R.bad_event ev ef cs h lt ((events_refused t.tags t.points ev k).0 a))

    order_judged : Judged (order_bytes ev ef cs)
    order_judged =
        elim (cases_Bool (ltb (length t.orders) 128)) [
          | inl k ↦ event_judged (event_of t.tags t.points ev) refl (ltb-true (length t.orders) 128 k)
          | inr k ↦ inr (C.Full, R.full_of_orders ev ef cs h (ltb-false (length t.orders) 128 k))
        ]

  record_judged : {l : List ℕ} → IsRecord l → Judged l
  record_judged {l} (R.tag_record {w} h) =
      name_judged l w (length t.tags) (with_tag t (name_of w)) (λ k. R.full_of_tags h k) (λ lt is. R.ill_named_tag h lt is) (λ lt is e. R.repeated_tag lt is e) (λ lt is e. a_tag is e lt)
  record_judged {l} (R.point_record {w} h) =
      name_judged l w (length t.points) (with_point t (name_of w)) (λ k. R.full_of_points h k) (λ lt is. R.ill_named_point h lt is) (λ lt is e. R.repeated_point lt is e) (λ lt is e. a_point is e lt)
  record_judged (R.order_record ev ef cs h) = order_judged ev ef cs h

  judged : (l : List ℕ) → Judged l
  judged l =
      elim (sorted t l) [
        | inl r ↦ record_judged r
        | inr e ↦ inr (C.Fields, R.no_record (λ r. record_read t r e))
      ]

  line_declared : (l : List ℕ) (u : Content) → line_of t l ≡ Ok u → DeclaresLine t l u
  line_declared l u e =
      elim (judged l) [
        | inl (v, d) ↦ let k = declared_line d in let q : v ≡ u = cc in subst (DeclaresLine t l) q d
        | inr (c, r) ↦ cc (refused_line r)
      ]

  line_refused : (l : List ℕ) (c : LineCause) → line_of t l ≡ Err c → RefusesLine t l c
  line_refused l c e =
      elim (judged l) [
        | inl (u, d) ↦ cc (declared_line d)
        | inr (d, r) ↦ let k = refused_line r in let q : d ≡ c = cc in subst (RefusesLine t l) q r
      ]

pub lines_declared : (t : Content) (l : List ℕ) (u : Content) → (line_of t l ≡ Ok u) ↔ DeclaresLine t l u
lines_declared t l u = (line_declared t l u, declared_line t)

pub lines_refused : (t : Content) (l : List ℕ) (c : LineCause) → (line_of t l ≡ Err c) ↔ RefusesLine t l c
lines_refused t l c = (line_refused t l c, refused_line t)
