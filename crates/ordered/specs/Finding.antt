-- The last element that passes a test, and the last row with a key. Assumes nothing.
use Rattle.std.specs.Prelude.{◌≡◌, ℕ, suc, ◌<◌, Bool, cond, List, [], ◌∷◌, length, Some, None, Option, ◌≢◌, slice_index_or}

-- one place further on, or here where the test is passed
abbrev pub later : Option ℕ → Bool → Option ℕ
later (Some i) b = Some (suc i)
later None b = cond b (Some 0) None

-- the place, from 0, of the last that passes
abbrev pub last_place : {X : Type 0} → (X → Bool) → List X → Option ℕ
last_place f [] = None
last_place f (x ∷ xs) = later (last_place f xs) (f x)

-- no row has the key; or the row at i has it, and none after it
abbrev pub LastWith : {X K : Type 0} → (X → K) → List X → K → Option ℕ → Type 0
LastWith {X} key rows k None = (i : ℕ) (x : X) → i < length rows → key (slice_index_or rows i x) ≢ k
LastWith {X} key rows k (Some i) =
    (i < length rows) × ((x : X) → key (slice_index_or rows i x) ≡ k) × ((j : ℕ) (x : X) → i < j → j < length rows → key (slice_index_or rows j x) ≢ k)
