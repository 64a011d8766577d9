-- A due is read as the grammar spells it, and why it is refused. Assumes nothing.
use Rattle.std.proofs.Common.{◌≡◌, ℕ, ◌≤◌, ltb, true, List, [], ◌∷◌, ◌++◌, map, Some, None, Ok, codes, Option, Result, refl, subst, inl, inr, arith}
use Rattle.std.proofs.lemmas.Slice.Eq.{bytes_eq-Decides}
use Rattle.std.proofs.lemmas.Bool.Decides.{nat_tests}
use Rattle.duties.specs.declared.order.Due.{Due}
use Rattle.duties.specs.declared.order.Due.TheVariants as U
use Rattle.duties.specs.Ranges.{last_minute, most_added}
use Rattle.fields.specs.declared.fault.Cause.{Cause}
use Rattle.fields.specs.Dues.{Form, alone, at, based, due_of, form_of, from_now, from_t, key_plus, limited, plus}
use Rattle.fields.specs.Reading.{and_then, shaped}
use Rattle.text.specs.declared.token.Keyword.{Keyword}
use Rattle.text.specs.declared.token.Keyword.TheVariants.{Now, Then}
use Rattle.text.specs.Spelling.{digit, numeral, value}
use Rattle.text.specs.Split.{split}
use Rattle.text.specs.Tokens.{Class, number, key, class_of, key_of, parts}
use Rattle.grammar.specs.Grammar as G
use Rattle.grammar.specs.Grammar.{NumberUpTo, SpellsDue}
use Rattle.grammar.specs.Reads.{DuesAreReadAsSpelled}
use Rattle.grammar.specs.Shapes as H
use Rattle.grammar.specs.Shapes.{DueShape}
use Rattle.grammar.proofs.Causes.{Decided, OrShaped}
use Rattle.grammar.proofs.Pieces.{Visible, all_weaker, joined, joined_split, lacks_all, split_one}
use Rattle.grammar.proofs.Told.{is_key, is_number, numbers_told, numeral_digits}

-- a due, and what it says
abbrev read_due : List ℕ → Result Due Cause
read_due bs = and_then (shaped (form_of (parts bs))) due_of

abbrev pub SomeDue : List ℕ → Type 0
SomeDue bs = (n limit : ℕ) × DueShape bs n limit

number_visible : (ds : List ℕ) → numeral ds ≡ true → Visible ds
number_visible ds h = all_weaker digit (ltb 32) (λ b k. grind (arith, nat_tests)) ds (numeral_digits ds h)

-- a due is one word
pub due_word : {bs : List ℕ} {n limit : ℕ} → DueShape bs n limit → Visible bs
due_word (H.minute {ds} m) = number_visible ds m
due_word H.from_now = refl
due_word (H.now_plus {ds} m) = number_visible ds m
due_word H.from_t = refl
due_word (H.t_plus {ds} m) = number_visible ds m

now_is : (bs : List ℕ) → key_of bs ≡ Some Now → bs ≡ codes "now"
now_is bs h = (bytes_eq-Decides bs (codes "now")).0 (grind (arith, nat_tests))

then_is : (bs : List ℕ) → key_of bs ≡ Some Then → bs ≡ codes "T"
then_is bs h = (bytes_eq-Decides bs (codes "T")).0 (grind (arith, nat_tests))

module _ (p : List ℕ) (f : Form) where
  key_due : (k : Keyword) → key_of p ≡ Some k → based k [] ≡ Some f → SomeDue p
  key_due Now e h = (0, most_added, rw (now_is p e) H.from_now)
  key_due Then e h = (0, most_added, rw (then_is p e) H.from_t)
  key_due k e h = cc

  alone_due : (c : Class) → class_of p ≡ c → alone c ≡ Some f → SomeDue p
  alone_due (number ds) e h = (value 0 p, last_minute, H.minute (is_number (key_of p) p ds e).1)
  alone_due (key k) e h = key_due k (is_key (key_of p) p k e) h
  alone_due c e h = cc

  module _ (r : List ℕ) where
    key_plus_due : (k : Keyword) (ds : List ℕ) → key_of p ≡ Some k → numeral r ≡ true → based k ds ≡ Some f → SomeDue (p ++ 43 ∷ r)
    key_plus_due Now ds e m h = (value 0 r, most_added, rw (now_is p e) (H.now_plus m))
    key_plus_due Then ds e m h = (value 0 r, most_added, rw (then_is p e) (H.t_plus m))
    key_plus_due k ds e m h = cc

    added_due : (k : Keyword) (c : Class) → key_of p ≡ Some k → class_of r ≡ c → key_plus k c ≡ Some f → SomeDue (p ++ 43 ∷ r)
    added_due k (number ds) e g h = key_plus_due k ds e (is_number (key_of r) r ds g).1 h
    added_due k c e g h = cc

    plus_due : (c : Class) → class_of p ≡ c → plus c (class_of r) ≡ Some f → SomeDue (p ++ 43 ∷ r)
    plus_due (key k) e h = added_due k (class_of r) (is_key (key_of p) p k e) refl h
    plus_due c e h = cc

words_due : (f : Form) (ws : List (List ℕ)) → form_of (map class_of ws) ≡ Some f → SomeDue (joined 43 ws)
words_due f [] h = cc
words_due f (p ∷ []) h = alone_due p f (class_of p) refl h
words_due f (p ∷ r ∷ []) h = plus_due p f r (class_of p) refl h
words_due f (p ∷ r ∷ q ∷ ws) h = cc

some_form : (bs : List ℕ) (o : Option Form) → form_of (parts bs) ≡ o → OrShaped (shaped o) (SomeDue bs)
some_form bs None e = inl refl
some_form bs (Some f) e = inr (subst SomeDue (joined_split 43 bs) (words_due f (split 43 bs) e))

pub due_or : (bs : List ℕ) → OrShaped (shaped (form_of (parts bs))) (SomeDue bs)
due_or bs = some_form bs (form_of (parts bs)) refl

number_alone : (ds : List ℕ) → numeral ds ≡ true → map class_of (split 43 ds) ≡ number ds ∷ []
number_alone ds h = rw (split_one 43 ds (lacks_all digit 43 ds refl (numeral_digits ds h)), (numbers_told ds).1 h)

limit_decided : {Spells : Due → Type 0} (limit : ℕ) (ds : List ℕ) (make : ℕ → Due) → (value 0 ds ≤ limit → Spells (make (value 0 ds))) → Decided Spells (value 0 ds) limit ⊥ (and_then (limited limit ds) (λ n. Ok (make n)))
limit_decided limit ds make each = grind (arith, nat_tests)

-- a due's shape is found, and then its number decides
pub due_limited : (bs : List ℕ) (n limit : ℕ) → DueShape bs n limit → (f : Form) × (shaped (form_of (parts bs)) ≡ Ok f) × Decided (SpellsDue bs) n limit ⊥ (due_of f)
due_limited _ _ _ (H.minute {ds} m) = (at ds, rw (number_alone ds m), limit_decided last_minute ds U.At (λ le. G.minute (m, refl, le)))
due_limited _ _ _ H.from_now = (from_now [], refl, limit_decided most_added [] U.Now (λ _. G.from_now))
due_limited _ _ _ (H.now_plus {ds} m) = (from_now ds, rw (number_alone ds m), limit_decided most_added ds U.Now (λ le. G.now_plus (m, refl, le)))
due_limited _ _ _ H.from_t = (from_t [], refl, limit_decided most_added [] U.Then (λ _. G.from_t))
due_limited _ _ _ (H.t_plus {ds} m) = (from_t ds, rw (number_alone ds m), limit_decided most_added ds U.Then (λ le. G.t_plus (m, refl, le)))

due_spelled : (bs : List ℕ) (u : Due) → read_due bs ≡ Ok u → SpellsDue bs u
due_spelled bs u h = let k = due_or bs in grind (arith, due_limited bs)

limit_read : (limit : ℕ) (ds : List ℕ) (n : ℕ) (make : ℕ → Due) → NumberUpTo limit ds n → and_then (limited limit ds) (λ n. Ok (make n)) ≡ Ok (make n)
limit_read limit ds n make h = grind (arith, nat_tests)

pub due_read : (bs : List ℕ) (u : Due) → SpellsDue bs u → read_due bs ≡ Ok u
due_read _ _ (G.minute {ds} {n} h) = rw (number_alone ds h.0) (limit_read last_minute ds n U.At h)
due_read _ _ G.from_now = refl
due_read _ _ (G.now_plus {ds} {n} h) = rw (number_alone ds h.0) (limit_read most_added ds n U.Now h)
due_read _ _ G.from_t = refl
due_read _ _ (G.t_plus {ds} {n} h) = rw (number_alone ds h.0) (limit_read most_added ds n U.Then h)

-- what is spelled has a shape
pub due_some : (bs : List ℕ) (u : Due) → SpellsDue bs u → SomeDue bs
due_some _ _ (G.minute {ds} h) = (value 0 ds, last_minute, H.minute h.0)
due_some _ _ G.from_now = (0, most_added, H.from_now)
due_some _ _ (G.now_plus {ds} h) = (value 0 ds, most_added, H.now_plus h.0)
due_some _ _ G.from_t = (0, most_added, H.from_t)
due_some _ _ (G.t_plus {ds} h) = (value 0 ds, most_added, H.t_plus h.0)

pub dues_spelled : DuesAreReadAsSpelled
dues_spelled bs u = (due_spelled bs u, due_read bs u)
