-- Line after line. Assumes nothing.
use Rattle.std.proofs.Common.{◌≡◌, ℕ, ◌+◌, List, [], ◌∷◌, ◌++◌, refl}
use Rattle.fields.specs.Reading.{and_then}
use Rattle.lines.specs.Lines.{line_of}
use Rattle.sheets.specs.Sheets.{Content}
use Rattle.verdicts.specs.Texts.{lined, lines_of, loaded}

-- the first piece is a line, since another piece follows: r stands behind the last line feed
pub lines_first : (l : List ℕ) (ps : List (List ℕ)) (r : List ℕ) (k : ℕ) (t : Content) → lines_of ((l ∷ ps) ++ r ∷ []) k t ≡ and_then (loaded (lined k (line_of t l))) (lines_of (ps ++ r ∷ []) (k + 1))
lines_first l [] r k t = refl
lines_first l (p ∷ ps) r k t = refl
