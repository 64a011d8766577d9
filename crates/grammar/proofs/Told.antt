-- What a piece is taken for, by its spelling. Assumes nothing.
use Rattle.std.proofs.Common.{◌≡◌, ℕ, true, false, List, [], ◌∷◌, Some, None, Option, arith}
use Rattle.std.proofs.lemmas.Bool.{and_from, not_from_false}
use Rattle.std.proofs.lemmas.Bool.Decides.{nat_tests}
use Rattle.text.specs.declared.token.Keyword.{Keyword}
use Rattle.text.specs.Spelling.{all, digit, name_like, numeral, reserved}
use Rattle.text.specs.Tokens.{name, number, key, class_of, key_else, key_of}
use Rattle.grammar.specs.Reads.{NamesAreToldBySpelling, NumbersAreToldBySpelling}

pub is_number : (o : Option Keyword) (bs n : List ℕ) → key_else o bs ≡ number n → (bs ≡ n) × (numeral bs ≡ true)
is_number o bs n h = grind (arith, nat_tests)

pub is_named : (o : Option Keyword) (bs n : List ℕ) → key_else o bs ≡ name n → (bs ≡ n) × (name_like bs ≡ true) × (o ≡ None)
is_named o bs n h = grind (arith, nat_tests)

pub is_key : (o : Option Keyword) (bs : List ℕ) (k : Keyword) → key_else o bs ≡ key k → o ≡ Some k
is_key o bs k h = grind (arith, nat_tests)

not_reserved : (w : List ℕ) → key_of w ≡ None → reserved w ≡ false
not_reserved w h = grind (arith, nat_tests)

pub names_told : NamesAreToldBySpelling
names_told w = (
  (λ h. let i = is_named (key_of w) w w h in and_from _ _ i.1 (not_from_false _ (not_reserved w i.2))),
  (λ h. grind (arith, nat_tests)),
)

pub numeral_digits : (bs : List ℕ) → numeral bs ≡ true → all digit bs ≡ true
numeral_digits bs h = grind (arith, nat_tests)

numeral_number : (bs : List ℕ) → numeral bs ≡ true → class_of bs ≡ number bs
numeral_number [] h = cc
numeral_number (b ∷ bs) h = let d = numeral_digits (b ∷ bs) h in grind (arith, nat_tests)

pub numbers_told : NumbersAreToldBySpelling
numbers_told w = ((λ h. (is_number (key_of w) w w h).1), numeral_number w)
