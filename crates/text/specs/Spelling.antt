-- Which bytes spell a name or a number. Assumes nothing.
use Rattle.std.specs.Prelude.{ℕ, ◌+◌, ◌-◌, ◌*◌, Bool, true, false, not, ◌&&◌, ◌||◌, List, [], ◌∷◌, length, codes, ◌==◌, nat_le}
use Rattle.std.specs.Str.{bytes_eq}

abbrev pub small : ℕ → Bool
small b = nat_le 97 b && nat_le b 122

abbrev pub digit : ℕ → Bool
digit b = nat_le 48 b && nat_le b 57

-- a small letter, a digit or an underscore
abbrev pub inner : ℕ → Bool
inner b = small b || (digit b || b == 95)

abbrev pub all : (ℕ → Bool) → List ℕ → Bool
all f [] = true
all f (b ∷ bs) = f b && all f bs

-- 1 to 16 bytes, a small letter first
abbrev pub name_like : List ℕ → Bool
name_like [] = false
name_like (b ∷ bs) = small b && (nat_le (length bs) 15 && all inner bs)

-- the words that no name may be
abbrev pub among : List ℕ → List (List ℕ) → Bool
among w [] = false
among w (v ∷ vs) = bytes_eq w v || among w vs

abbrev pub reserved : List ℕ → Bool
reserved w =
    among w (codes "now" ∷ codes "no" ∷ codes "met" ∷ codes "failed" ∷ codes "scan" ∷ codes "reach" ∷ codes "hold" ∷ codes "tag" ∷ codes "point" ∷ codes "order" ∷ [])

abbrev pub is_name : List ℕ → Bool
is_name w = name_like w && not (reserved w)

-- digits, and no leading zero
abbrev pub numeral : List ℕ → Bool
numeral [] = false
numeral (b ∷ []) = digit b
numeral (b ∷ c ∷ bs) = nat_le 49 b && (nat_le b 57 && all digit (c ∷ bs))

-- the number that digits write, after those that wrote a
abbrev pub value : ℕ → List ℕ → ℕ
value a [] = a
value a (d ∷ ds) = value (a * 10 + (d - 48)) ds
