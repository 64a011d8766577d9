-- A shelf is its rows. Assumes nothing.
use Rattle.std.proofs.Common.{◌≡◌, ◌≤◌, length}
use Rattle.std.proofs.Props.{props}
use std.HLevel.{prop→path_p}
use Rattle.ordered.specs.Rows.{items}
use Rattle.shelf.specs.declared.shelf.Shelf.{Shelf}

pub same_shelf : (s t : Shelf) → s.rows ≡ t.rows → s ≡ t
same_shelf s t e =
    let one : IsProp (length (items t.rows) ≤ 64) = hlevel props in
    λ i. record { rows = e i; few = prop→path_p (λ j. length (items (e j)) ≤ 64) one s.few t.few i }
