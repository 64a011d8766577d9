-- A duty whose row is taken out of the chain is struck. Assumes nothing.
use Rattle.std.proofs.Common.{◌≡◌, ℕ, suc, ◌-◌, ◌<◌, Bool, true, false, List, ◌∷◌, ◌++◌, length, Some, None, Option, Ok, Err, sym, refl, ap, ◌∙◌, subst, inl, inr, arith}
use Rattle.std.proofs.lemmas.List.{length-set, length-append, map-append, get_or-set_same}
use Rattle.ordered.specs.Ascending.{◌∈◌, holding, excluding}
use Rattle.ordered.proofs.Walks.{excluding_none}
use Rattle.duties.specs.Duties.{before}
use Rattle.duties.specs.declared.duty.Duty.{Duty}
use Rattle.ordered.specs.Changes.{Struck}
use Rattle.registers.specs.Meaning.{Lawful, SpareRowsLeftOpen}
use Rattle.registers.proofs.Changes.{struck, struck_lawful}
use Rattle.registers.proofs.Spares.{left_open_carries}
use Rattle.chain.specs.Links.{aimed_from, begins, taken_out, ends_without}
use Rattle.chain.specs.Spots.{spot_of}
use Rattle.chain.specs.Walk.{row_at, duties_at, room_of, used, free, chained, Distinct, Linked, NoRowMoves}
use Rattle.chain.specs.declared.find.Spot.{Spot}
use Rattle.chain.specs.declared.link.Ends.{Ends}
use Rattle.chain.specs.declared.link.Link.{Link}
use Rattle.chain.proofs.Apart.{in_left, in_right, parts, With, with_between, with_inside}
use Rattle.chain.proofs.Cuts.{Cut, cut_at}
use Rattle.chain.proofs.Leads.{Inside, Leads, walk_leads, leads_walk, leads_join, leads_set, leads_from, last_of, last_there, leads_turned, duty_aimed, duty_from, duties_same}
use Rattle.chain.proofs.Relinked.{length_walk, length_from, count_fits, moved, spares_set, spares_from, Becomes}
use Rattle.chain.proofs.Staying.{no_row_moves}

-- the duty d is struck from a chain in order, which answers r
abbrev pub Strikes : List Link → Ends → Duty → Bool → List Link → Ends → Type 0
Strikes rows e d r = Becomes (Struck d r (chained rows e)) rows e

-- the row p is no more between the places xs and zs, and is the first of the free ones
record Parted (rows rows' : List Link) (head p : ℕ) (xs zs fs : List ℕ) : Type 0 where
  used : (t : ℕ) × Leads rows' head (xs ++ zs) t
  free : (t : ℕ) × Leads rows' p (p ∷ fs) t
  duties : (q : ℕ) → (row_at rows' q).duty ≡ (row_at rows q).duty

module _ (rows : List Link) (prev : Option ℕ) (head p rest : ℕ) (xs zs fs : List ℕ) (last : prev ≡ last_of None xs) (here : p < length rows) (inside : Inside rows xs) (once : Distinct ((xs ++ p ∷ zs) ++ fs)) where
  abbrev to : ℕ
  to = (row_at rows p).next

  abbrev one : List Link
  one = aimed_from rows prev to

  abbrev two : List Link
  two = taken_out rows prev p rest

  prev_used : (q : ℕ) → prev ≡ Some q → q ∈ xs
  prev_used q e = last_there q xs (sym last ∙ e)

  p_used : p ∈ (xs ++ p ∷ zs)
  p_used = in_right p xs (p ∷ zs) (inl refl)

  leads_past : (t : ℕ) → Leads rows head xs p → Leads rows to zs t → Leads two (begins prev to head) (xs ++ zs) t
  leads_past t front back =
      let among = parts xs (p ∷ zs) (parts (xs ++ p ∷ zs) fs once).front in
      let turned : Leads one (begins prev to head) xs to = subst (λ (o : Option ℕ). Leads (aimed_from rows o to) (begins o to head) xs to) (sym last) (leads_turned rows head p to xs inside among.front front) in
      let onward : Leads one to zs t = leads_from rows prev to to t zs (λ q e m. among.apart q (prev_used q e) (inr m)) back in
      leads_join two (begins prev to head) to t xs zs
      (leads_set one p _ (begins prev to head) to xs (λ m. among.apart p m (inl refl)) turned)
      (leads_set one p _ to t zs among.back.0 onward)

  leads_spare : (t : ℕ) → Leads rows rest fs t → Leads two p (p ∷ fs) t
  leads_spare t spare =
      let all = parts (xs ++ p ∷ zs) fs once in
      let at_p : row_at two p ≡ record { duty = (row_at one p).duty; next = rest } = get_or-set_same one p _ _ (omega (arith, length_from rows prev to)) in
      let kept : Leads two rest fs t =
      leads_set one p _ rest t fs (all.apart p p_used)
      (leads_from rows prev to rest t fs (λ q e. all.apart q (in_left q xs (p ∷ zs) (prev_used q e))) spare) in
      (refl, subst (λ (r : Link). Leads two r.next fs t) (sym at_p) kept)

  part : Leads rows head xs p → (t : ℕ) × Leads rows to zs t → (t : ℕ) × Leads rows rest fs t → Parted rows two (begins prev to head) p xs zs fs
  part front back spare = record {
    used = (back.0, leads_past back.0 front back.1);
    free = (spare.0, leads_spare spare.0 spare.1);
    duties = λ q. duty_aimed one p rest q ∙ duty_from rows prev to q;
  }

module _ (rows : List Link) (e : Ends) (d : Duty) (s : Spot) (k : Linked rows e) (cut : Cut rows d None e.head e.count (Ok s)) where
  abbrev p : ℕ
  p = s.at

  abbrev xs : List ℕ
  xs = cut.front

  abbrev zs : List ℕ
  zs = (cut.fewer refl).0

  abbrev fs : List ℕ
  fs = free rows e

  abbrev rows' : List Link
  rows' = taken_out rows s.prev p e.free

  abbrev e' : Ends
  e' = ends_without e s.prev p (row_at rows p).next

  used_is : used rows e ≡ xs ++ p ∷ zs
  used_is = cut.whole ∙ ap (λ (l : List ℕ). xs ++ l) (cut.fewer refl).1

  places : used rows e ++ fs ≡ (xs ++ p ∷ zs) ++ fs
  places = ap (λ (l : List ℕ). l ++ fs) used_is

  inside : (q : ℕ) → q ∈ (xs ++ p ∷ zs) → q < room_of rows
  inside q m = k.inside q (subst (λ (l : List ℕ). q ∈ l) (sym places) (in_left q (xs ++ p ∷ zs) fs m))

  front_inside : (q : ℕ) → q ∈ xs → q < room_of rows
  front_inside q m = inside q (in_left q xs (p ∷ zs) m)

  p_inside : p < room_of rows
  p_inside = inside p (in_right p xs (p ∷ zs) (inl refl))

  same_length : length rows' ≡ length rows
  same_length = length-set (aimed_from rows s.prev (row_at rows p).next) p _ ∙ length_from rows s.prev (row_at rows p).next

  parted : Parted rows rows' e'.head p xs zs fs
  parted =
      let back : (t : ℕ) × Leads rows p (p ∷ zs) t = (cut.onward.0, subst (λ (l : List ℕ). Leads rows p l cut.onward.0) (cut.fewer refl).1 cut.onward.1) in
      part rows s.prev e.head p e.free xs zs fs cut.last (omega (arith, p_inside)) (λ q m. omega (arith, front_inside q m)) (subst Distinct places k.once)
      cut.leads (back.0, back.1.1) (walk_leads rows e.free (room_of rows - e.count))

  counted : e.count ≡ suc (length (xs ++ zs))
  counted = omega (arith, length-append xs (p ∷ zs), length-append xs zs, ap length used_is, length_walk rows e.head e.count)

  used' : used rows' e' ≡ xs ++ zs
  used' = leads_walk rows' e'.head parted.used.0 (e.count - 1) (xs ++ zs) parted.used.1 (omega (arith, counted))

  free' : free rows' e' ≡ p ∷ fs
  free' =
      leads_walk rows' p parted.free.0 (room_of rows' - (e.count - 1)) (p ∷ fs) parted.free.1
      (omega (arith, length_walk rows e.free (room_of rows - e.count), same_length, counted, count_fits rows e k))

  set' : chained rows' e' ≡ excluding before d (chained rows e)
  set' = ap (duties_at rows') used' ∙ duties_same rows rows' (xs ++ zs) (λ q m. parted.duties q) ∙ map-append (λ q. (row_at rows q).duty) xs zs ∙ sym (cut.fewer refl).2

  spares' : SpareRowsLeftOpen rows rows'
  spares' =
      (left_open_carries (λ (l : List Link). l)).on rows (aimed_from rows s.prev (row_at rows p).next) rows'
      (spares_from rows s.prev _ (λ q i. omega (arith, front_inside q (last_there q xs (sym cut.last ∙ i)))))
      (spares_set _ p _ (omega (arith, p_inside)))

  linked' : Lawful (chained rows' e') (room_of rows) → Linked rows' e'
  linked' =
      let places' : used rows' e' ++ free rows' e' ≡ (xs ++ zs) ++ p ∷ fs = ap (λ (l : List ℕ). l ++ free rows' e') used' ∙ ap (λ (l : List ℕ). (xs ++ zs) ++ l) free' in
      moved rows rows' e e' p ((xs ++ zs) ++ fs) k same_length
      (subst (With p ((xs ++ zs) ++ fs)) (sym places) (with_inside p xs zs fs))
      (subst (With p ((xs ++ zs) ++ fs)) (sym places') (with_between p (xs ++ zs) fs))

  still' : NoRowMoves rows e rows' e'
  still' =
      no_row_moves rows rows' e e' k
      (λ q m. inl (subst (λ (l : List ℕ). q ∈ l) (sym used_is) (((with_between p xs zs).each q).1 (inr (subst (λ (l : List ℕ). q ∈ l) used' m))), parted.duties q))

  pub strikes : Strikes rows e d true rows' e'
  strikes =
      let answer : true ≡ holding before d (chained rows e) = cut.answer in
      record {
        does = struck d (chained rows e) (room_of rows) k.lawful true (chained rows' e') answer set';
        spares = spares';
        stays = linked' (struck_lawful d (chained rows e) (room_of rows) k.lawful true (chained rows' e') answer set');
        still = still';
      }

-- the same of what the code wrote
module _ {rows' : List Link} {e' : Ends} where
  pub strikes_as : (rows : List Link) (e : Ends) (d : Duty) (s : Spot) → Linked rows e → Ok s ≡ spot_of rows d e.head e.count
      → rows' ≡ taken_out rows s.prev s.at e.free → e' ≡ ends_without e s.prev s.at (row_at rows s.at).next → Strikes rows e d true rows' e'
  strikes_as rows e d s k is as_rows as_ends =
      subst (λ (l : List Link). Strikes rows e d true l e') (sym as_rows)
      (subst (Strikes rows e d true (taken_out rows s.prev s.at e.free)) (sym as_ends) (strikes rows e d s k (cut_at rows e d (Ok s) k is)))

-- where nothing is written
pub strikes_not : (rows : List Link) (e : Ends) (d : Duty) (s : Spot) → Linked rows e → Err s ≡ spot_of rows d e.head e.count → Struck d false (chained rows e) (chained rows e)
strikes_not rows e d s k is =
    let answer : false ≡ holding before d (chained rows e) = (cut_at rows e d (Err s) k is).answer in
    struck d (chained rows e) (room_of rows) k.lawful false (chained rows e) answer (sym (excluding_none before d (chained rows e) (sym answer)))
