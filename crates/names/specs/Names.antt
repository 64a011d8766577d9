-- Names as values, and their order. Assumes nothing.
use Rattle.std.specs.Prelude.{◌≡◌, ℕ, Bool, true, false, cond, ◌⊎◌, List, [], ◌∷◌, ◌++◌, take, replicate, ◌==◌, ◌≢◌, nat_lt}
use Rattle.text.specs.Spelling.{name_like}
use Rattle.names.specs.declared.name.Name.{Name}

-- the name of these bytes, 16 at most, filled up with zeros
abbrev pub name_of : List ℕ → Name
name_of bs = record { bytes = take 16 (bs ++ replicate 16 0) }

-- the bytes of a name, which are those before the first zero
abbrev pub spelled : List ℕ → List ℕ
spelled [] = []
spelled (b ∷ bs) = cond (b == 0) [] (b ∷ spelled bs)

abbrev pub name_bytes : Name → List ℕ
name_bytes n = spelled n.bytes

-- by the first byte that differs, and a list before its own extensions
abbrev pub bytes_before : List ℕ → List ℕ → Bool
bytes_before bs [] = false
bytes_before [] (c ∷ cs) = true
bytes_before (b ∷ bs) (c ∷ cs) = cond (nat_lt b c) true (cond (nat_lt c b) false (bytes_before bs cs))

-- the order of names
abbrev pub name_before : Name → Name → Bool
name_before m n = bytes_before m.bytes n.bytes

-- no name is before itself, before carries over, and of two unequal names just one is before the other;
-- bytes stand before their own extensions, and so does a name
abbrev pub NamesAreTotallyOrdered : Type 0
NamesAreTotallyOrdered =
    ((n : Name) → name_before n n ≡ false)
    × ((l m n : Name) → name_before l m ≡ true → name_before m n ≡ true → name_before l n ≡ true)
    × ((m n : Name) → (m ≢ n) → ((name_before m n ≡ true) × (name_before n m ≡ false)) ⊎ ((name_before m n ≡ false) × (name_before n m ≡ true)))
    × ((v w : List ℕ) → (w ≢ []) → bytes_before v (v ++ w) ≡ true)
    × ((v w : List ℕ) → (w ≢ []) → name_like v ≡ true → name_like (v ++ w) ≡ true → name_before (name_of v) (name_of (v ++ w)) ≡ true)
