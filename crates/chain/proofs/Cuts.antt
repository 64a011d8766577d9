-- A spot cuts a chain in two: the duties before it are less than the one that is sought. Assumes nothing.
use Rattle.std.proofs.Common.{◌≡◌, ℕ, zero, suc, ◌<◌, true, false, cond, not, List, [], ◌∷◌, ◌++◌, length, Some, None, Option, Ok, Err, Result, is_ok, sym, IfOk, refl, ap, ◌∙◌, subst, inl, inr, arith}
use Rattle.std.proofs.lemmas.List.{length-append}
use Rattle.std.proofs.lemmas.Bool.{both_ways, cond-true, cond-false, lt-ltb, not-true, not-false}
use Rattle.ordered.specs.Ascending.{◌∈◌, holding, including, excluding}
use Rattle.duties.specs.Duties.{before}
use Rattle.duties.specs.declared.duty.Duty.{Duty}
use Rattle.chain.specs.Spots.{stops_at, spot_among, spot_of, spot_in}
use Rattle.chain.specs.Walk.{row_at, walk, trail, used, duties_at, Linked}
use Rattle.chain.specs.declared.find.Spot.{Spot}
use Rattle.chain.specs.declared.link.Ends.{Ends}
use Rattle.chain.specs.declared.link.Link.{Link}
use Rattle.chain.proofs.Leads.{Inside, Leads, walk_leads, last_of, last_there}
use Rattle.chain.proofs.Apart.{in_left, in_right}
use Rattle.chain.proofs.Relinked.{used_inside, length_walk}

pub record Cut (rows : List Link) (d : Duty) (prev : Option ℕ) (p k : ℕ) (r : Result Spot Spot) : Type 0 where
  pub front : List ℕ
  pub back : List ℕ
  pub whole : walk rows p k ≡ front ++ back
  pub leads : Leads rows p front (spot_in r).at
  pub onward : (t : ℕ) × Leads rows (spot_in r).at back t
  pub last : (spot_in r).prev ≡ last_of prev front
  pub answer : is_ok r ≡ holding before d (duties_at rows (walk rows p k))
  pub grown : is_ok r ≡ false → including before d (duties_at rows (walk rows p k)) ≡ duties_at rows front ++ d ∷ duties_at rows back
  pub fewer : is_ok r ≡ true → (rest : List ℕ) × (back ≡ (spot_in r).at ∷ rest) × (excluding before d (duties_at rows (walk rows p k)) ≡ duties_at rows front ++ duties_at rows rest)

-- at the first row, which is not before d
module _ (rows : List Link) (d : Duty) (prev : Option ℕ) (p k : ℕ) (e : before (row_at rows p).duty d ≡ false) where
  abbrev here : Spot
  here = record { prev = prev; at = p }

  abbrev row : Link
  row = row_at rows p

  stopped : (r : Result Spot Spot) → spot_in r ≡ here → is_ok r ≡ not (before d row.duty) → Cut rows d prev p (suc k) r
  stopped r at held = record {
    front = [];
    back = p ∷ walk rows row.next k;
    whole = refl;
    leads = ap (λ (s : Spot). s.at) (sym at);
    onward = subst (λ (s : Spot). (t : ℕ) × Leads rows s.at (p ∷ walk rows row.next k) t) (sym at) (walk_leads rows p (suc k));
    last = ap (λ (s : Spot). s.prev) at;
    answer = held ∙ sym (cond-false _ _ _ e);
    grown = λ h. cond-false _ _ _ e ∙ cond-true _ _ _ (not-false (before d row.duty) (sym held ∙ h));
    fewer = λ h. (walk rows row.next k, ap (λ (s : Spot). s.at ∷ walk rows row.next k) (sym at), cond-false _ _ _ e ∙ cond-false _ _ _ (not-true (before d row.duty) (sym held ∙ h)));
  }

  stop : Cut rows d prev p (suc k) (stops_at here row d)
  stop =
      elim (before d row.duty) as (λ b. before d row.duty ≡ b → Cut rows d prev p (suc k) (cond b (Err here) (Ok here))) [
        | true ↦ λ h. stopped (Err here) refl (sym (ap not h))
        | false ↦ λ h. stopped (Ok here) refl (sym (ap not h))
      ]
      refl

cut : (rows : List Link) (d : Duty) (prev : Option ℕ) (p k : ℕ) → Inside rows (walk rows p k) → Cut rows d prev p k (spot_among (trail rows p k) d (record { prev = prev; at = p }))
cut rows d prev p zero i = record {
  front = [];
  back = [];
  whole = refl;
  leads = refl;
  onward = (p, refl);
  last = refl;
  answer = refl;
  grown = λ e. refl;
  fewer = λ e. absurd (both_ways false refl e);
}
cut rows d prev p (suc k) i =
    let row = row_at rows p in
    let es = duties_at rows (walk rows row.next k) in
    subst (λ (l : List Link). Cut rows d prev p (suc k) (spot_among l d (record { prev = prev; at = p }))) (sym (cond-true _ _ _ (lt-ltb p (length rows) (i p (inl refl)))))
    (elim (before row.duty d) as (λ b. before row.duty d ≡ b → Cut rows d prev p (suc k) (cond b (spot_among (trail rows row.next k) d (record { prev = Some p; at = row.next })) (stops_at (record { prev = prev; at = p }) row d))) [
      | true ↦ λ e.
          let rest = cut rows d (Some p) row.next k (λ q m. i q (inr m)) in
          record {
            front = p ∷ rest.front;
            back = rest.back;
            whole = ap (λ (l : List ℕ). p ∷ l) rest.whole;
            leads = (refl, rest.leads);
            onward = rest.onward;
            last = rest.last;
            answer = rest.answer ∙ sym (cond-true _ _ _ e);
            grown = λ h. cond-true _ _ _ e ∙ ap (λ (l : List Duty). row.duty ∷ l) (rest.grown h);
            fewer = λ h.
                let f = rest.fewer h in
                (f.0, f.1, cond-true _ _ _ e ∙ ap (λ (l : List Duty). row.duty ∷ l) f.2);
          }
      | false ↦ λ e. stop rows d prev p k e
    ]
    refl)

pub cut_at : (rows : List Link) (e : Ends) (d : Duty) (r : Result Spot Spot) → Linked rows e → r ≡ spot_of rows d e.head e.count → Cut rows d None e.head e.count r
cut_at rows e d r k is = subst (Cut rows d None e.head e.count) (sym is) (cut rows d None e.head e.count (used_inside rows e k))

-- the row before a spot is a row, and so is the duty's own
pub prev_inside : (rows : List Link) (e : Ends) (d : Duty) (r : Result Spot Spot) → Linked rows e → r ≡ spot_of rows d e.head e.count → (p : ℕ) → (spot_in r).prev ≡ Some p → p < length rows
prev_inside rows e d r k is p at =
    let c = cut_at rows e d r k is in
    used_inside rows e k p (subst (λ (l : List ℕ). p ∈ l) (sym c.whole) (in_left p c.front c.back (last_there p c.front (sym c.last ∙ at))))

pub own_inside : (rows : List Link) (e : Ends) (d : Duty) (r : Result Spot Spot) → Linked rows e → r ≡ spot_of rows d e.head e.count → IfOk r (λ s. (s.at < length rows) × (0 < e.count))
own_inside rows e d (Err s) k is = tt
own_inside rows e d (Ok s) k is =
    let c = cut_at rows e d (Ok s) k is in
    let f = c.fewer refl in
    let whole : used rows e ≡ c.front ++ s.at ∷ f.0 = c.whole ∙ ap (λ (l : List ℕ). c.front ++ l) f.1 in (
      used_inside rows e k s.at (subst (λ (l : List ℕ). s.at ∈ l) (sym whole) (in_right s.at c.front (s.at ∷ f.0) (inl refl))),
      omega (arith, ap length whole, length_walk rows e.head e.count, length-append c.front (s.at ∷ f.0)),
    )
