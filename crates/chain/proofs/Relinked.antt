-- What a change of the rows has to show so that the chain is in order after it. Assumes nothing.
use Rattle.std.proofs.Common.{◌≡◌, ℕ, zero, suc, ◌-◌, ◌<◌, ◌≤◌, min, List, ◌++◌, length, set, Some, None, Option, sym, refl, ap, ◌∙◌, subst, inl, arith}
use Rattle.std.proofs.lemmas.List.{length-set, length-map, drop-set-lt}
use Rattle.ordered.specs.Ascending.{◌∈◌}
use Rattle.duties.specs.declared.duty.Duty.{Duty}
use Rattle.registers.specs.Meaning.{Lawful, SpareRowsLeftOpen}
use Rattle.chain.specs.Links.{aimed_from}
use Rattle.chain.specs.Walk.{row_at, walk, room_of, used, free, chained, Linked, NoRowMoves}
use Rattle.chain.specs.declared.link.Ends.{Ends}
use Rattle.chain.specs.declared.link.Link.{Link}
use Rattle.chain.proofs.Apart.{With, in_left, in_right}
use Rattle.chain.proofs.Leads.{Inside}

pub length_walk : (rows : List Link) (p k : ℕ) → length (walk rows p k) ≡ k
length_walk rows p zero = refl
length_walk rows p (suc k) = ap suc (length_walk rows (row_at rows p).next k)

pub length_chained : (rows : List Link) (e : Ends) → length (chained rows e) ≡ e.count
length_chained rows e = length-map (used rows e) _ ∙ length_walk rows e.head e.count

pub length_from : (rows : List Link) (prev : Option ℕ) (to : ℕ) → length (aimed_from rows prev to) ≡ length rows
length_from rows None to = refl
length_from rows (Some p) to = length-set rows p _

-- what holds of the places and the count of a chain in order
module _ (rows : List Link) (e : Ends) (k : Linked rows e) where
  pub used_inside : Inside rows (used rows e)
  used_inside p m = omega (arith, k.inside p (in_left p (used rows e) (free rows e) m))

  pub free_inside : e.count < room_of rows → e.free < room_of rows
  free_inside more =
      let n : room_of rows - e.count ≡ suc (room_of rows - e.count - 1) = omega arith in
      k.inside e.free (in_right e.free (used rows e) (free rows e) (subst (λ (l : List ℕ). e.free ∈ l) (sym (ap (walk rows e.free) n)) (inl refl)))

  pub count_fits : e.count ≤ room_of rows
  count_fits = omega (arith, length_chained rows e, k.lawful.fits)

-- a place moves from one of two lists to the other
pub moved : (rows rows' : List Link) (e e' : Ends) (f : ℕ) (rest : List ℕ) → Linked rows e → length rows' ≡ length rows
    → With f rest (used rows e ++ free rows e) → With f rest (used rows' e' ++ free rows' e') → Lawful (chained rows' e') (room_of rows) → Linked rows' e'
moved rows rows' e e' f rest k same old new lawful =
    let room : room_of rows ≡ room_of rows' = ap (λ n. min n 64) (sym same) in
    record {
      lawful = subst (Lawful (chained rows' e')) room lawful;
      inside = λ p m. subst (λ (n : ℕ). p < n) room (k.inside p ((old.each p).1 ((new.each p).0 m)));
      once = new.once.1 (old.once.0 k.once);
    }

-- rows past the 64th are as they were
pub spares_set : (rows : List Link) (p : ℕ) (row : Link) → p < 64 → SpareRowsLeftOpen rows (set rows p row)
spares_set rows p row h = record { as_many = length-set rows p row; past_the_room = drop-set-lt 64 rows p row h }

pub spares_from : (rows : List Link) (prev : Option ℕ) (to : ℕ) → ((p : ℕ) → prev ≡ Some p → p < 64) → SpareRowsLeftOpen rows (aimed_from rows prev to)
spares_from rows None to h = record { as_many = refl; past_the_room = refl }
spares_from rows (Some p) to h = spares_set rows p _ (h p refl)

-- a chain in order becomes another one, whose set is as it should be
pub record Becomes (Set : List Duty → Type 0) (rows : List Link) (e : Ends) (rows' : List Link) (e' : Ends) : Type 0 where
  pub does : Set (chained rows' e')
  pub spares : SpareRowsLeftOpen rows rows'
  pub stays : Linked rows' e'
  pub still : NoRowMoves rows e rows' e'
