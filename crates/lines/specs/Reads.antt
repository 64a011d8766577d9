-- What reading a line leaves. Assumes nothing.
use Rattle.std.specs.Prelude.{◌≡◌, ℕ, ◌≤◌, true, List, ◌++◌, Ok, Err, Result}
use Rattle.names.specs.declared.name.Name.{Name}
use Rattle.names.specs.Names.{name_before}
use Rattle.ordered.specs.declared.order.TotalOrder as order
use Rattle.ordered.specs.declared.rows.OrderedRows.{OrderedRows}
use Rattle.ordered.specs.Ascending.{member, rising}
use Rattle.ordered.specs.Rows.{capacity, items}
use Rattle.sheets.specs.Sheets.{Content}
use Rattle.lines.specs.declared.fault.LineCause.{LineCause}
use Rattle.lines.specs.Lines.{line_of}

-- names in their order
abbrev pub by_name : order.Ghosts Name
by_name = record { less = name_before }

-- ordered rows that have just the names of a table, and room for all that it may have
pub record Indexes (known : OrderedRows Name by_name) (t : Content) : Type 0 where
  pub rising : rising name_before (items known) ≡ true
  pub each : (n : Name) → member name_before n (items known) ≡ member name_before n (t.tags ++ t.points)
  pub room : 128 ≤ capacity known

-- the table is then what the line makes of it; at a fault, what it was
abbrev pub LineRead : Result (Unit {0}) LineCause → Content → Content → List ℕ → Type 0
LineRead (Ok _) t u line = line_of t line ≡ Ok u
LineRead (Err e) t u line = (line_of t line ≡ Err e) × (u ≡ t)
