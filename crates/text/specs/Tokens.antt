-- The tokens of a word. Assumes nothing.
use Rattle.std.specs.Prelude.{ℕ, cond, List, map, Some, None, codes, Option}
use Rattle.std.specs.Str.{bytes_eq}
use Rattle.text.specs.declared.token.Keyword.{Keyword}
use Rattle.text.specs.declared.token.Keyword.TheVariants.{Now, Then, No, Met, Failed, Scan, Reach, Hold, Tag, Point, Order}
use Rattle.text.specs.declared.token.Token.{Token}
use Rattle.text.specs.declared.token.Token.TheVariants as V
use Rattle.text.specs.declared.token.Tokens.{Tokens}
use Rattle.text.specs.Pieces.{pieces_left}
use Rattle.text.specs.Spelling.{name_like, numeral}
use Rattle.text.specs.Split.{split}

-- a token, with the bytes that it holds
pub data Class : Type 0 where
  name : List ℕ → Class
  number : List ℕ → Class
  key : Keyword → Class
  other : Class

abbrev pub token_of : Token → Class
token_of (V.Name s) = name s.now
token_of (V.Number s) = number s.now
token_of (V.Key k) = key k
token_of V.Other = other

-- a reserved word, or T
abbrev pub key_of : List ℕ → Option Keyword
key_of bs =
    cond (bytes_eq bs (codes "now")) (Some Now) (
    cond (bytes_eq bs (codes "T")) (Some Then) (
    cond (bytes_eq bs (codes "no")) (Some No) (
    cond (bytes_eq bs (codes "met")) (Some Met) (
    cond (bytes_eq bs (codes "failed")) (Some Failed) (
    cond (bytes_eq bs (codes "scan")) (Some Scan) (
    cond (bytes_eq bs (codes "reach")) (Some Reach) (
    cond (bytes_eq bs (codes "hold")) (Some Hold) (
    cond (bytes_eq bs (codes "tag")) (Some Tag) (
    cond (bytes_eq bs (codes "point")) (Some Point) (
    cond (bytes_eq bs (codes "order")) (Some Order) (
    None)))))))))))

abbrev pub plain : List ℕ → Class
plain bs = cond (name_like bs) (name bs) (cond (numeral bs) (number bs) other)

abbrev pub key_else : Option Keyword → List ℕ → Class
key_else (Some k) bs = key k
key_else None bs = plain bs

-- what a piece is: a key word, else a name, else a number
abbrev pub class_of : List ℕ → Class
class_of bs = key_else (key_of bs) bs

-- the tokens of a word, which + joins
abbrev pub parts : List ℕ → List Class
parts bs = map class_of (split 43 bs)

-- the tokens that are left to be taken
abbrev pub left : Tokens → List Class
left t = map class_of (pieces_left t.pieces)
