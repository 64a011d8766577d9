-- A duty that is linked in at its spot is entered. Assumes nothing.
use Rattle.std.proofs.Common.{◌≡◌, ℕ, suc, ◌+◌, ◌-◌, ◌<◌, ◌≤◌, Bool, true, false, ◌||◌, ltb, List, ◌∷◌, ◌++◌, length, set, Some, None, Option, Ok, Err, sym, refl, ap, ◌∙◌, subst, inl, inr, arith}
use Rattle.std.proofs.lemmas.List.{length-set, length-append, map-append, get_or-set_same, get_or-set_other}
use Rattle.std.proofs.lemmas.Bool.{or_left, or_right, or_from, lt-ltb, le-ltb}
use Rattle.std.proofs.lemmas.Bool.Decides.{not_from_Decides}
use Rattle.ordered.specs.Ascending.{◌∈◌, holding, including}
use Rattle.ordered.proofs.Walks.{including_old}
use Rattle.duties.specs.Duties.{before}
use Rattle.duties.specs.declared.duty.Duty.{Duty}
use Rattle.ordered.specs.Changes.{Entered}
use Rattle.registers.specs.Meaning.{Lawful, SpareRowsLeftOpen}
use Rattle.registers.proofs.Changes.{held, entered, entered_lawful}
use Rattle.registers.proofs.Spares.{left_open_carries}
use Rattle.chain.specs.Links.{aimed_from, begins, linked_in, ends_with}
use Rattle.chain.specs.Spots.{spot_of}
use Rattle.chain.specs.Walk.{row_at, walk, duties_at, room_of, used, free, chained, Distinct, Linked, NoRowMoves}
use Rattle.chain.specs.declared.find.Spot.{Spot}
use Rattle.chain.specs.declared.link.Ends.{Ends}
use Rattle.chain.specs.declared.link.Link.{Link}
use Rattle.chain.proofs.Apart.{in_left, in_right, parts, With, with_between, with_inside}
use Rattle.chain.proofs.Cuts.{Cut, cut_at}
use Rattle.chain.proofs.Leads.{Inside, Leads, walk_leads, leads_walk, leads_join, leads_set, leads_from, last_of, last_there, leads_turned, duty_from, duties_same}
use Rattle.chain.proofs.Relinked.{length_walk, length_from, length_chained, free_inside, moved, spares_set, spares_from, Becomes}
use Rattle.chain.proofs.Staying.{no_row_moves}

-- the duty d is entered into a chain in order, which answers r
abbrev pub Enters : List Link → Ends → Duty → Bool → List Link → Ends → Type 0
Enters rows e d r = Becomes (λ ds. Entered d r (chained rows e) ds (room_of rows)) rows e

pub not_there : (rows : List Link) (e : Ends) (d : Duty) (s : Spot) (k : Linked rows e) → Cut rows d None e.head e.count (Err s) → d ∈ chained rows e → ⊥
not_there rows e d s k cut = not_from_Decides _ (held d (chained rows e) (room_of rows) k.lawful) (sym cut.answer)

-- the row f is linked in between the places xs and ys, and is no more the first of the free ones
record Joined (rows rows' : List Link) (head rest f : ℕ) (d : Duty) (xs ys fs : List ℕ) : Type 0 where
  used : (t : ℕ) × Leads rows' head (xs ++ f ∷ ys) t
  free : (t : ℕ) × Leads rows' rest fs t
  duties : duties_at rows' (xs ++ f ∷ ys) ≡ duties_at rows xs ++ d ∷ duties_at rows ys
  others : (q : ℕ) → (q ≡ f → ⊥) → (row_at rows' q).duty ≡ (row_at rows q).duty
  new : (row_at rows' f).duty ≡ d

module _ (rows : List Link) (prev : Option ℕ) (head f to : ℕ) (d : Duty) (xs ys fs : List ℕ) (last : prev ≡ last_of None xs) (here : f < length rows) (inside : Inside rows xs) (once : Distinct ((xs ++ ys) ++ f ∷ fs)) where
  abbrev one : List Link
  one = set rows f (record { duty = d; next = to })

  abbrev two : List Link
  two = linked_in rows prev f to d

  not_used : f ∈ (xs ++ ys) → ⊥
  not_used m = (parts (xs ++ ys) (f ∷ fs) once).apart f m (inl refl)

  prev_used : (q : ℕ) → prev ≡ Some q → q ∈ xs
  prev_used q e = last_there q xs (sym last ∙ e)

  at_f : row_at one f ≡ record { duty = d; next = to }
  at_f = get_or-set_same rows f _ _ here

  leads_in : (t : ℕ) → Leads rows head xs to → Leads rows to ys t → Leads two (begins prev f head) (xs ++ f ∷ ys) t
  leads_in t front back =
      let among = parts xs ys (parts (xs ++ ys) (f ∷ fs) once).front in
      let turned : Leads two (begins prev f head) xs f =
      subst (λ (o : Option ℕ). Leads (aimed_from one o f) (begins o f head) xs f) (sym last)
      (leads_turned one head to f xs (λ p m. omega (arith, inside p m, length-set rows f (record { duty = d; next = to }))) among.front (leads_set rows f _ head to xs (λ m. not_used (in_left f xs ys m)) front)) in
      let onward : Leads one f (f ∷ ys) t = (refl, subst (λ (r : Link). Leads one r.next ys t) (sym at_f) (leads_set rows f _ to t ys (λ m. not_used (in_right f xs ys m)) back)) in
      leads_join two (begins prev f head) f t xs (f ∷ ys) turned
      (leads_from one prev f f t (f ∷ ys) (λ q e m. elim m [ inl i ↦ not_used (in_left f xs ys (subst (λ (r : ℕ). r ∈ xs) i (prev_used q e))) | inr n ↦ among.apart q (prev_used q e) n ]) onward)

  leads_free : (t : ℕ) → Leads rows (row_at rows f).next fs t → Leads two (row_at rows f).next fs t
  leads_free t spare =
      let all = parts (xs ++ ys) (f ∷ fs) once in
      leads_from one prev f (row_at rows f).next t fs (λ q e m. all.apart q (in_left q xs ys (prev_used q e)) (inr m))
      (leads_set rows f _ (row_at rows f).next t fs all.back.0 spare)

  duty_other : (q : ℕ) → (q ≡ f → ⊥) → (row_at two q).duty ≡ (row_at rows q).duty
  duty_other q n = duty_from one prev f q ∙ ap (λ (r : Link). r.duty) (get_or-set_other rows f q _ _ n)

  duty_new : (row_at two f).duty ≡ d
  duty_new = duty_from one prev f f ∙ ap (λ (r : Link). r.duty) at_f

  kept : (ps : List ℕ) → (f ∈ ps → ⊥) → duties_at two ps ≡ duties_at rows ps
  kept ps n = duties_same rows two ps (λ q m. duty_other q (λ e. n (subst (λ (r : ℕ). r ∈ ps) e m)))

  duties_in : duties_at two (xs ++ f ∷ ys) ≡ duties_at rows xs ++ d ∷ duties_at rows ys
  duties_in =
      map-append (λ p. (row_at two p).duty) xs (f ∷ ys)
      ∙ ap (λ (l : List Duty). l ++ (row_at two f).duty ∷ duties_at two ys) (kept xs (λ m. not_used (in_left f xs ys m)))
      ∙ ap (λ (l : List Duty). duties_at rows xs ++ (row_at two f).duty ∷ l) (kept ys (λ m. not_used (in_right f xs ys m)))
      ∙ ap (λ (c : Duty). duties_at rows xs ++ c ∷ duties_at rows ys) duty_new

  join : Leads rows head xs to → (t : ℕ) × Leads rows to ys t → (t : ℕ) × Leads rows (row_at rows f).next fs t → Joined rows two (begins prev f head) (row_at rows f).next f d xs ys fs
  join front back spare = record {
    used = (back.0, leads_in back.0 front back.1);
    free = (spare.0, leads_free spare.0 spare.1);
    duties = duties_in;
    others = duty_other;
    new = duty_new;
  }

module _ (rows : List Link) (e : Ends) (d : Duty) (s : Spot) (k : Linked rows e) (cut : Cut rows d None e.head e.count (Err s)) (more : e.count < room_of rows) where
  abbrev xs : List ℕ
  xs = cut.front

  abbrev ys : List ℕ
  ys = cut.back

  abbrev f : ℕ
  f = e.free

  abbrev fs : List ℕ
  fs = walk rows (row_at rows f).next (room_of rows - e.count - 1)

  abbrev rows' : List Link
  rows' = linked_in rows s.prev f s.at d

  abbrev e' : Ends
  e' = ends_with e s.prev f (row_at rows f).next

  places : used rows e ++ free rows e ≡ (xs ++ ys) ++ f ∷ fs
  places =
      let n : room_of rows - e.count ≡ suc (room_of rows - e.count - 1) = omega arith in
      ap (λ (l : List ℕ). l ++ free rows e) cut.whole ∙ ap (λ (i : ℕ). (xs ++ ys) ++ walk rows f i) n

  inside : (p : ℕ) → p ∈ ((xs ++ ys) ++ f ∷ fs) → p < room_of rows
  inside p m = k.inside p (subst (λ (l : List ℕ). p ∈ l) (sym places) m)

  front_inside : (p : ℕ) → p ∈ xs → p < room_of rows
  front_inside p m = inside p (in_left p (xs ++ ys) (f ∷ fs) (in_left p xs ys m))

  same_length : length rows' ≡ length rows
  same_length = length_from (set rows f (record { duty = d; next = s.at })) s.prev f ∙ length-set rows f _

  joined : Joined rows rows' e'.head e'.free f d xs ys fs
  joined =
      join rows s.prev e.head f s.at d xs ys fs cut.last (omega (arith, free_inside rows e k more)) (λ p m. omega (arith, front_inside p m)) (subst Distinct places k.once)
      cut.leads cut.onward (walk_leads rows (row_at rows f).next (room_of rows - e.count - 1))

  used' : used rows' e' ≡ xs ++ f ∷ ys
  used' =
      leads_walk rows' e'.head joined.used.0 (e.count + 1) (xs ++ f ∷ ys) joined.used.1
      (omega (arith, length-append xs (f ∷ ys), length-append xs ys, ap length cut.whole, length_walk rows e.head e.count))

  free' : free rows' e' ≡ fs
  free' =
      leads_walk rows' e'.free joined.free.0 (room_of rows' - (e.count + 1)) fs joined.free.1
      (omega (arith, length_walk rows (row_at rows f).next (room_of rows - e.count - 1), same_length))

  set' : chained rows' e' ≡ including before d (chained rows e)
  set' = ap (duties_at rows') used' ∙ joined.duties ∙ sym (cut.grown refl)

  spares' : SpareRowsLeftOpen rows rows'
  spares' =
      (left_open_carries (λ (l : List Link). l)).on rows (set rows f (record { duty = d; next = s.at })) rows'
      (spares_set rows f _ (omega (arith, free_inside rows e k more)))
      (spares_from _ s.prev f (λ p i. omega (arith, front_inside p (last_there p xs (sym cut.last ∙ i)))))

  linked' : Lawful (chained rows' e') (room_of rows) → Linked rows' e'
  linked' =
      let places' : used rows' e' ++ free rows' e' ≡ (xs ++ f ∷ ys) ++ fs = ap (λ (l : List ℕ). l ++ free rows' e') used' ∙ ap (λ (l : List ℕ). (xs ++ f ∷ ys) ++ l) free' in
      moved rows rows' e e' f ((xs ++ ys) ++ fs) k same_length
      (subst (With f ((xs ++ ys) ++ fs)) (sym places) (with_between f (xs ++ ys) fs))
      (subst (With f ((xs ++ ys) ++ fs)) (sym places') (with_inside f xs ys fs))

  still' : NoRowMoves rows e rows' e'
  still' =
      let old-or-new = with_between f xs ys in
      let unused : f ∈ (xs ++ ys) → ⊥ = λ m. (parts (xs ++ ys) (f ∷ fs) (subst Distinct places k.once)).apart f m (inl refl) in
      no_row_moves rows rows' e e' k (λ q m. elim ((old-or-new.each q).0 (subst (λ (l : List ℕ). q ∈ l) used' m)) [
        | inl i ↦ inr (λ there. not_there rows e d s k cut (subst (λ (c : Duty). c ∈ chained rows e) (ap (λ (r : ℕ). (row_at rows' r).duty) i ∙ joined.new) there))
        | inr n ↦ inl (subst (λ (l : List ℕ). q ∈ l) (sym cut.whole) n, joined.others q (λ i. unused (subst (λ (r : ℕ). r ∈ (xs ++ ys)) i n)))
      ])

  pub enters : Enters rows e d true rows' e'
  enters =
      let answer : true ≡ (holding before d (chained rows e) || ltb (length (chained rows e)) (room_of rows)) = sym (or_right _ _ (lt-ltb (length (chained rows e)) (room_of rows) (omega (arith, length_chained rows e)))) in
      record {
        does = entered d (chained rows e) (room_of rows) k.lawful true (chained rows' e') answer set';
        spares = spares';
        stays = linked' (entered_lawful d (chained rows e) (room_of rows) k.lawful true (chained rows' e') answer set');
        still = still';
      }

-- the same of what the code wrote
module _ {rows' : List Link} {e' : Ends} where
  pub enters_as : (rows : List Link) (e : Ends) (d : Duty) (s : Spot) → Linked rows e → Err s ≡ spot_of rows d e.head e.count → e.count < room_of rows
      → rows' ≡ linked_in rows s.prev e.free s.at d → e' ≡ ends_with e s.prev e.free (row_at rows e.free).next → Enters rows e d true rows' e'
  enters_as rows e d s k is more as_rows as_ends =
      subst (λ (l : List Link). Enters rows e d true l e') (sym as_rows)
      (subst (Enters rows e d true (linked_in rows s.prev e.free s.at d)) (sym as_ends) (enters rows e d s k (cut_at rows e d (Err s) k is) more))

-- where nothing is written: the duty is held, or the room is full
module _ (rows : List Link) (e : Ends) (d : Duty) (s : Spot) (k : Linked rows e) where
  abbrev ds : List Duty
  ds = chained rows e

  pub enters_held : Ok s ≡ spot_of rows d e.head e.count → Entered d true ds ds (room_of rows)
  enters_held is =
      let there : holding before d ds ≡ true = sym (cut_at rows e d (Ok s) k is).answer in
      entered d ds (room_of rows) k.lawful true ds (sym (or_left _ _ there)) (sym (including_old before d ds there))

  pub enters_not : Err s ≡ spot_of rows d e.head e.count → room_of rows ≤ e.count → Entered d false ds ds (room_of rows)
  enters_not is full =
      entered d ds (room_of rows) k.lawful false ds
      (sym (or_from _ _ (sym (cut_at rows e d (Err s) k is).answer) (le-ltb (length ds) (room_of rows) (omega (arith, length_chained rows e))))) refl
