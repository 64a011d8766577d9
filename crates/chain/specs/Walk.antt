-- The rows of a chain, each of which names the next by its place. Assumes nothing.
use Rattle.std.specs.Prelude.{◌≡◌, ℕ, zero, suc, ◌-◌, ◌<◌, cond, min, List, [], ◌∷◌, ◌++◌, map, length, nat_lt, slice_index_or}
use Rattle.std.specs.Coded.{×_prop, Π_prop, Unit-prop, le_prop, Coded-set, coded_bool}
use Rattle.ordered.specs.Ascending.{◌∈◌}
use Rattle.duties.specs.declared.duty.Duty.{Duty}
use Rattle.duties.specs.declared.duty.Literal.TheVariants.{Is}
use Rattle.duties.specs.declared.duty.Task.TheVariants.{Hold}
use Rattle.registers.specs.Meaning.{Lawful}
use Rattle.chain.specs.declared.link.Ends.{Ends}
use Rattle.chain.specs.declared.link.Link.{Link}
use Rattle.chain.specs.declared.walk.Walk.{Walk}

-- the row at a place
abbrev pub row_at : List Link → ℕ → Link
row_at rows p = slice_index_or rows p (record { duty = record { due = 0; task = Hold (Is 0) }; next = 0 })

-- the first k places from p on, each of them named by the row before it
abbrev pub walk : List Link → ℕ → ℕ → List ℕ
walk rows p zero = []
walk rows p (suc k) = p ∷ walk rows (row_at rows p).next k

-- the rows at these places, as far as they are rows
abbrev pub trail : List Link → ℕ → ℕ → List Link
trail rows p zero = []
trail rows p (suc k) = cond (nat_lt p (length rows)) (row_at rows p ∷ trail rows (row_at rows p).next k) []

-- those that an iterator still gives
abbrev pub to_come : Walk → List Link
to_come w = trail w.rows.now w.at w.left

-- the duties in the rows at these places
abbrev pub duties_at : List Link → List ℕ → List Duty
duties_at rows ps = map (λ p. (row_at rows p).duty) ps

-- as much room as rows, at most 64
abbrev pub room_of : List Link → ℕ
room_of rows = min (length rows) 64

-- the places of the chain of duties, and those of the chain of free rows, which are all the others
abbrev pub used : List Link → Ends → List ℕ
used rows e = walk rows e.head e.count

abbrev pub free : List Link → Ends → List ℕ
free rows e = walk rows e.free (room_of rows - e.count)

-- the set that a chain means
abbrev pub chained : List Link → Ends → List Duty
chained rows e = duties_at rows (used rows e)

-- no place stands twice
abbrev pub Distinct : List ℕ → Type 0
Distinct [] = Unit {0}
Distinct (p ∷ ps) = (p ∈ ps → ⊥) × Distinct ps

-- A chain in order: each place of the room is in just one of the two chains, once, and the duties ascend.
pub record Linked (rows : List Link) (e : Ends) : Type 0 where
  pub lawful : Lawful (chained rows e) (room_of rows)
  pub inside : (p : ℕ) → p ∈ (used rows e ++ free rows e) → p < room_of rows
  pub once : Distinct (used rows e ++ free rows e)

-- there is one proof of it at most, so a type can keep it
Distinct_prop : (ps : List ℕ) → IsProp (Distinct ps)
Distinct_prop [] = Unit-prop
Distinct_prop (p ∷ ps) = ×_prop (Π_prop (λ m q r. absurd q)) (Distinct_prop ps)

pub Linked_prop : (rows : List Link) (e : Ends) → IsProp (Linked rows e)
Linked_prop rows e = λ k l i. record {
  lawful = record {
    ascending = Coded-set coded_bool _ _ k.lawful.ascending l.lawful.ascending i;
    fits = le_prop k.lawful.fits l.lawful.fits i;
    small = le_prop k.lawful.small l.lawful.small i;
  };
  inside = λ p m. le_prop (k.inside p m) (l.inside p m) i;
  once = Distinct_prop _ k.once l.once i;
}

-- no row moves: a duty that is held before a call and after it is in the same row
abbrev pub NoRowMoves : List Link → Ends → List Link → Ends → Type 0
NoRowMoves rows e rows' e' = (p q : ℕ) → p ∈ used rows e → q ∈ used rows' e' → (row_at rows p).duty ≡ (row_at rows' q).duty → p ≡ q
