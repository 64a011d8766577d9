-- What entering, striking and clearing do to the rows of a chain. Assumes nothing.
use Rattle.std.specs.Prelude.{◌≡◌, ℕ, ◌+◌, ◌-◌, ◌<◌, List, Some, None, Option, slice_set}
use Rattle.duties.specs.declared.duty.Duty.{Duty}
use Rattle.chain.specs.Walk.{row_at, room_of}
use Rattle.chain.specs.declared.link.Ends.{Ends}
use Rattle.chain.specs.declared.link.Link.{Link}

-- the row at p names q
abbrev pub aimed : List Link → ℕ → ℕ → List Link
aimed rows p q = slice_set rows p (record { duty = (row_at rows p).duty; next = q })

-- the row that comes before names q, where there is one
abbrev pub aimed_from : List Link → Option ℕ → ℕ → List Link
aimed_from rows None q = rows
aimed_from rows (Some p) q = aimed rows p q

-- where the chain then begins
abbrev pub begins : Option ℕ → ℕ → ℕ → ℕ
begins None q head = q
begins (Some p) q head = head

-- the row f has d, and stands before the row at q
abbrev pub linked_in : List Link → Option ℕ → ℕ → ℕ → Duty → List Link
linked_in rows prev f q d = aimed_from (slice_set rows f (record { duty = d; next = q })) prev f

abbrev pub ends_with : Ends → Option ℕ → ℕ → ℕ → Ends
ends_with e prev f rest = record { head = begins prev f e.head; free = rest; count = e.count + 1 }

-- the row p leaves the chain, and is the first of the free rows
abbrev pub taken_out : List Link → Option ℕ → ℕ → ℕ → List Link
taken_out rows prev p rest = aimed (aimed_from rows prev (row_at rows p).next) p rest

abbrev pub ends_without : Ends → Option ℕ → ℕ → ℕ → Ends
ends_without e prev p q = record { head = begins prev q e.head; free = p; count = e.count - 1 }

-- each row of the room names the one after it
abbrev pub Strung : List Link → Type 0
Strung rows = (p : ℕ) → p < room_of rows → (row_at rows p).next ≡ p + 1
