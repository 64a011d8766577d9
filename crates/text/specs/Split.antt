-- The parts of a list between separators, and what follows a front. Assumes nothing.
use Rattle.std.specs.Prelude.{ℕ, cond, List, [], ◌∷◌, Some, None, Option, ◌==◌}

-- b in front of the first part
abbrev pub onto : ℕ → List (List ℕ) → List (List ℕ)
onto b [] = (b ∷ []) ∷ []
onto b (p ∷ ps) = (b ∷ p) ∷ ps

-- the parts between the separators s, one more than there are separators
abbrev pub split : ℕ → List ℕ → List (List ℕ)
split s [] = [] ∷ []
split s (b ∷ bs) = cond (b == s) ([] ∷ split s bs) (onto b (split s bs))

-- what follows a front, where the bytes begin with it
abbrev pub past : List ℕ → List ℕ → Option (List ℕ)
past [] bs = Some bs
past (p ∷ ps) [] = None
past (p ∷ ps) (b ∷ bs) = cond (b == p) (past ps bs) None
