-- What ordered rows mean: the rows up to the count, and how many fit. Assumes nothing.
use Rattle.std.specs.Prelude.{ℕ, List, length, take}
use Rattle.ordered.specs.declared.order.TotalOrder as order
use Rattle.ordered.specs.declared.rows.OrderedRows.{OrderedRows}

abbrev pub items : {X : Type 0} {o : order.Ghosts X} → OrderedRows X o → List X
items s = take s.count s.rows.now

abbrev pub capacity : {X : Type 0} {o : order.Ghosts X} → OrderedRows X o → ℕ
capacity s = length s.rows.now
