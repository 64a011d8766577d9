-- The pieces that are left to be taken. Assumes nothing.
use Rattle.std.specs.Prelude.{ℕ, List, [], Some, None, Option}
use Rattle.std.specs.Borrow.{Bor}
use Rattle.text.specs.declared.pieces.Pieces.{Pieces}
use Rattle.text.specs.Split.{split}

abbrev split_rest : ℕ → Option (Bor (List ℕ)) → List (List ℕ)
split_rest sep None = []
split_rest sep (Some s) = split sep s.now

-- none once the last one is taken
unfoldable pub pieces_left : Pieces → List (List ℕ)
pieces_left p = split_rest p.sep p.rest
