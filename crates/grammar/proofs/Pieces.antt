-- Pieces of bytes between separators, and what follows a front. Assumes nothing.
use Rattle.std.proofs.Common.{◌≡◌, ℕ, ◌<◌, Bool, true, false, ltb, List, [], ◌∷◌, ◌++◌, length, Some, None, refl, arith}
use Rattle.std.proofs.lemmas.Bool.Decides.{nat_tests}
use Rattle.std.specs.List.{AllByRecursion}
use Rattle.fields.specs.Reading.{by}
use Rattle.text.specs.Spelling.{all}
use Rattle.text.specs.Split.{onto, past, split}
use Rattle.text.proofs.Splits.{split_some}

-- s is not among the bytes
abbrev pub Lacks : ℕ → List ℕ → Type 0
Lacks s bs = AllByRecursion (λ b. b ≡ s → ⊥) bs

-- each passes a test that s does not pass
pub lacks_all : (f : ℕ → Bool) (s : ℕ) (bs : List ℕ) → f s ≡ false → all f bs ≡ true → Lacks s bs
lacks_all f s [] out h = tt
lacks_all f s (b ∷ bs) out h = let k = lacks_all f s bs out in grind (arith, nat_tests)

pub all_weaker : (f g : ℕ → Bool) → ((b : ℕ) → f b ≡ true → g b ≡ true) → (bs : List ℕ) → all f bs ≡ true → all g bs ≡ true
all_weaker f g each [] h = refl
all_weaker f g each (b ∷ bs) h = let k = all_weaker f g each bs in let i = each b in grind (arith, nat_tests)

pub all_both : (f : ℕ → Bool) (cs bs : List ℕ) → all f cs ≡ true → all f bs ≡ true → all f (cs ++ bs) ≡ true
all_both f [] bs h k = k
all_both f (c ∷ cs) bs h k = let i = all_both f cs bs in grind (arith, nat_tests)

-- bytes above a space, as words have
abbrev pub Visible : List ℕ → Type 0
Visible bs = all (ltb 32) bs ≡ true

pub past_is : (p bs r : List ℕ) → past p bs ≡ Some r → bs ≡ p ++ r
past_is [] bs r h = cc
past_is (p ∷ ps) [] r h = cc
past_is (p ∷ ps) (b ∷ bs) r h = grind (arith, nat_tests, past_is ps bs r)

-- by what follows a front, or else
pub by_front : {Y : Type 0} (front bs : List ℕ) (f : List ℕ → Y) (y : Y) (P : List ℕ → Y → Type 0) → ((r : List ℕ) → P (front ++ r) (f r)) → P bs y → P bs (by (past front bs) f y)
by_front front bs f y P h k = let e = past_is front bs in grind arith

-- bytes that pass a test do not begin with what does not
pub none_past : (f : ℕ → Bool) (p bs : List ℕ) → all f p ≡ false → all f bs ≡ true → past p bs ≡ None
none_past f [] bs out h = cc
none_past f (p ∷ ps) [] out h = refl
none_past f (p ∷ ps) (b ∷ bs) out h = grind (arith, nat_tests, none_past f ps bs)

onto_append : (b : ℕ) (ps qs : List (List ℕ)) → 0 < length ps → onto b (ps ++ qs) ≡ onto b ps ++ qs
onto_append b ps qs some = grind arith

-- at a separator the pieces are parted
pub split_append : (s : ℕ) (cs bs : List ℕ) → split s (cs ++ s ∷ bs) ≡ split s cs ++ split s bs
split_append s [] bs = grind (arith, nat_tests)
split_append s (a ∷ cs) bs =
    let e = split_append s cs bs in let k = onto_append a (split s cs) (split s bs) (split_some s cs) in grind (arith, nat_tests)

-- with no separator there is one piece
pub split_one : (s : ℕ) (bs : List ℕ) → Lacks s bs → split s bs ≡ bs ∷ []
split_one s [] h = refl
split_one s (b ∷ bs) h = let e = split_one s bs h.1 in grind (arith, nat_tests)

pub split_word : {bs : List ℕ} → Visible bs → split 32 bs ≡ bs ∷ []
split_word {bs} h = split_one 32 bs (lacks_all (ltb 32) 32 bs refl h)

pub split_two : {cs bs : List ℕ} → Visible cs → Visible bs → split 32 (cs ++ 32 ∷ bs) ≡ cs ∷ bs ∷ []
split_two {cs} {bs} h k = rw (split_append 32 cs bs, split_word h, split_word k)

-- pieces joined by s after the first
abbrev pub after : ℕ → List ℕ → List (List ℕ) → List ℕ
after s v [] = v
after s v (w ∷ ws) = after s (v ++ s ∷ w) ws

abbrev pub joined : ℕ → List (List ℕ) → List ℕ
joined s [] = []
joined s (w ∷ ws) = after s w ws

after_cons : (s b : ℕ) (v : List ℕ) (ws : List (List ℕ)) → after s (b ∷ v) ws ≡ b ∷ after s v ws
after_cons s b v [] = refl
after_cons s b v (w ∷ ws) = after_cons s b (v ++ s ∷ w) ws

-- the pieces joined again
pub joined_split : (s : ℕ) (bs : List ℕ) → joined s (split s bs) ≡ bs
joined_split s [] = refl
joined_split s (b ∷ bs) = let e = joined_split s bs in let k = split_some s bs in grind (arith, nat_tests, after_cons)
