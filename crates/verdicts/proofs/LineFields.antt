-- A line is a record of fields, or it is read as none. Assumes nothing.
use Rattle.std.proofs.Common.{◌≡◌, ℕ, ◌≤◌, Bool, cond, leb, ◌⊎◌, List, [], ◌∷◌, ◌++◌, length, Ok, Err, codes, Option, Result, sym, refl, ap, ◌∙◌, subst, inl, inr, arith}
use Rattle.std.proofs.lemmas.List.{append_assoc, append-nil}
use Rattle.std.proofs.lemmas.Bool.{cases_Bool, le-leb, leb-true}
use Rattle.std.proofs.lemmas.Bool.Decides.{nat_tests}
use Rattle.std.specs.List.{AllByRecursion}
use Rattle.duties.specs.declared.order.Event.{Event}
use Rattle.duties.specs.declared.order.Order.{Order}
use Rattle.duties.specs.declared.order.Statement.{Statement}
use Rattle.duties.specs.Ranges.{literal_apart, t_bound}
use Rattle.fields.specs.declared.fault.WordFault.{WordFault}
use Rattle.fields.specs.Fields.{event_of, statement_of}
use Rattle.fields.specs.Reading.{and_then, placed}
use Rattle.names.specs.declared.name.Name.{Name}
use Rattle.names.specs.Names.{name_of}
use Rattle.text.specs.Spelling.{is_name}
use Rattle.sheets.specs.Sheets.{Content, with_order, with_point, with_tag}
use Rattle.text.specs.Split.{split}
use Rattle.lines.specs.declared.fault.LineCause.TheVariants as C
use Rattle.lines.specs.Lines.{conditions_of, declared, line_of, one_field, order_fields, room, worded}
use Rattle.grammar.proofs.Pieces.{Lacks, after, by_front, joined, joined_split, split_append, split_one}
use Rattle.verdicts.specs.Declares.{tabbed}
use Rattle.verdicts.specs.Refused as R
use Rattle.verdicts.specs.Refused.{IsRecord, OrderFields, Tabless, count_of, order_bytes}
use Rattle.verdicts.proofs.Bytes.{Prints, no_tab}

-- the parts between separators have none
pub parts_without : (s : ℕ) (bs : List ℕ) → AllByRecursion (λ p. count_of s p ≡ 0) (split s bs)
parts_without s [] = (refl, tt)
parts_without s (b ∷ bs) = let k = parts_without s bs in grind (arith, nat_tests)

pub none_lacks : (s : ℕ) (bs : List ℕ) → count_of s bs ≡ 0 → Lacks s bs
none_lacks s [] h = tt
none_lacks s (b ∷ bs) h = let k = none_lacks s bs in grind (arith, nat_tests)

lacks_none : (s : ℕ) (bs : List ℕ) → Lacks s bs → count_of s bs ≡ 0
lacks_none s [] h = refl
lacks_none s (b ∷ bs) h = let k = lacks_none s bs h.1 in grind (arith, nat_tests)

pub prints_tabless : (bs : List ℕ) → Prints bs → Tabless bs
prints_tabless bs h = lacks_none 9 bs (no_tab bs h)

each_lacks : (cs : List (List ℕ)) → AllByRecursion Tabless cs → AllByRecursion (Lacks 9) cs
each_lacks [] h = tt
each_lacks (c ∷ cs) (h, hs) = (none_lacks 9 c h, each_lacks cs hs)

-- fields joined by tabs
after_tabbed : (v : List ℕ) (cs : List (List ℕ)) → after 9 v cs ≡ v ++ tabbed cs
after_tabbed v [] = sym (append-nil v)
after_tabbed v (c ∷ cs) = after_tabbed (v ++ 9 ∷ c) cs ∙ append_assoc v (9 ∷ c) (tabbed cs)

split_tabbed : (v : List ℕ) (cs : List (List ℕ)) → Lacks 9 v → AllByRecursion (Lacks 9) cs → split 9 (v ++ tabbed cs) ≡ v ∷ cs
split_tabbed v [] h hs = ap (split 9) (append-nil v) ∙ split_one 9 v h
split_tabbed v (c ∷ cs) h (k, hs) = rw (split_append 9 v (c ++ tabbed cs), split_one 9 v h, split_tabbed c cs k hs)

fields_joined : (r ev ef : List ℕ) (cs : List (List ℕ)) → split 9 r ≡ ev ∷ ef ∷ cs → ev ++ 9 ∷ (ef ++ tabbed cs) ≡ r
fields_joined r ev ef cs h =
    sym (append_assoc ev (9 ∷ ef) (tabbed cs)) ∙ sym (after_tabbed (ev ++ 9 ∷ ef) cs) ∙ ap (joined 9) (sym h) ∙ joined_split 9 r

-- the fields of a record are found
pub one_read : (w : List ℕ) → Tabless w → split 9 w ≡ w ∷ []
one_read w h = split_one 9 w (none_lacks 9 w h)

pub fields_read : (ev ef : List ℕ) (cs : List (List ℕ)) → OrderFields ev ef cs → order_fields (split 9 (ev ++ 9 ∷ (ef ++ tabbed cs))) ≡ Ok (ev, ef, cs)
fields_read ev ef cs (h, k, hs, le) =
    rw (split_append 9 ev (ef ++ tabbed cs), one_read ev h, split_tabbed ef cs (none_lacks 9 ef k) (each_lacks cs hs), le-leb (length cs) 4 le)

one_cases : (ws : List (List ℕ)) → ((w : List ℕ) × (ws ≡ w ∷ [])) ⊎ (one_field ws ≡ Err C.Fields)
one_cases [] = inr refl
one_cases (w ∷ []) = inl (w, refl)
one_cases (w ∷ v ∷ ws) = inr refl

few_cases : (ws : List (List ℕ)) → ((ev ef : List ℕ) × (cs : List (List ℕ)) × (ws ≡ ev ∷ ef ∷ cs) × (length cs ≤ 4)) ⊎ (order_fields ws ≡ Err C.Fields)
few_cases [] = inr refl
few_cases (ev ∷ []) = inr refl
few_cases (ev ∷ ef ∷ cs) = elim (cases_Bool (leb (length cs) 4)) [ inl e ↦ inl (ev, ef, cs, refl, leb-true (length cs) 4 e) | inr e ↦ inr (rw e) ]

one_tabless : (r w : List ℕ) → split 9 r ≡ w ∷ [] → Tabless r
one_tabless r w is = subst Tabless (ap (joined 9) (sym is) ∙ joined_split 9 r) (subst (AllByRecursion Tabless) is (parts_without 9 r)).0

-- a line whose fields are found has another fault, if any
name_faults : (n : ℕ) (p q : Bool) (x : Name) (make : Name → Content) → and_then (and_then (room 64 n) (λ _. cond p (cond q (Err C.Repeated) (Ok x)) (Err C.Name))) (λ m. Ok (make m)) ≡ Err C.Fields → ⊥
name_faults n p q x make h = grind (arith, nat_tests)

order_faults : (n : ℕ) (a : Result Event WordFault) (b : Result Statement WordFault) (c : Result (List (Option Statement)) WordFault) (t : Content) (p q : Order → Bool) → and_then (and_then (room 128 n) (λ _. and_then (worded a) (λ ev. and_then (worded b) (λ ef. and_then (worded c) (λ cs. let o : Order = record { event = ev; effect = ef; conditions = cs } in cond (p o) (cond (q o) (Ok o) (Err C.UnboundT)) (Err C.LiteralWithDuty)))))) (λ o. Ok (with_order t o)) ≡ Err C.Fields → ⊥
order_faults n a b c t p q h = grind (arith, nat_tests)

module _ (t : Content) where
  -- a line is a record, or it is read as none
  pub sorted : (l : List ℕ) → IsRecord l ⊎ (line_of t l ≡ Err C.Fields)
  sorted l =
      by_front (codes "tag" ++ 9 ∷ []) l _ _ (λ b v. IsRecord b ⊎ (v ≡ Err C.Fields))
      (λ r. elim (one_cases (split 9 r)) [ inl (w, is) ↦ inl (R.tag_record (one_tabless r w is)) | inr bad ↦ inr (rw bad) ])
      (by_front (codes "point" ++ 9 ∷ []) l _ _ (λ b v. IsRecord b ⊎ (v ≡ Err C.Fields))
      (λ r. elim (one_cases (split 9 r)) [ inl (w, is) ↦ inl (R.point_record (one_tabless r w is)) | inr bad ↦ inr (rw bad) ])
      (by_front (codes "order" ++ 9 ∷ []) l _ _ (λ b v. IsRecord b ⊎ (v ≡ Err C.Fields))
      (λ r. elim (few_cases (split 9 r)) [
        | inl (ev, ef, cs, is, le) ↦
            let (h, (k, hs)) = subst (AllByRecursion Tabless) is (parts_without 9 r) in
            inl (subst (λ b. IsRecord (codes "order" ++ 9 ∷ b)) (fields_joined r ev ef cs is) (R.order_record ev ef cs (h, k, hs, le)))
        | inr bad ↦ inr (rw bad)
      ])
      (inr refl)))

  -- but not both
  pub record_read : {l : List ℕ} → IsRecord l → line_of t l ≡ Err C.Fields → ⊥
  record_read (R.tag_record {w} h) e =
      name_faults (length t.tags) (is_name w) (declared t (name_of w)) (name_of w) (with_tag t) (rw (one_read w h) at e)
  record_read (R.point_record {w} h) e =
      name_faults (length t.points) (is_name w) (declared t (name_of w)) (name_of w) (with_point t) (rw (one_read w h) at e)
  record_read (R.order_record ev ef cs h) e =
      order_faults (length t.orders) (placed 2 (event_of t.tags t.points ev)) (placed 3 (statement_of t.tags t.points ef)) (conditions_of t.tags t.points cs) t literal_apart t_bound (rw (fields_read ev ef cs h) at e)
