-- What the fields of an order say, against the names that are declared. In each, the shapes of all words come before what they mean,
-- and of these the leftmost fault decides. Assumes nothing.
use Rattle.std.specs.Prelude.{ℕ, List, [], ◌∷◌, Some, None, Ok, Err, codes, Option, Result}
use Rattle.duties.specs.declared.duty.Literal.{Literal}
use Rattle.duties.specs.declared.duty.Literal.TheVariants as L
use Rattle.duties.specs.declared.duty.Task.{Task}
use Rattle.duties.specs.declared.duty.Task.TheVariants as K
use Rattle.duties.specs.declared.order.Due.{Due}
use Rattle.duties.specs.declared.order.DutyPattern.{DutyPattern}
use Rattle.duties.specs.declared.order.Event.{Event}
use Rattle.duties.specs.declared.order.Event.TheVariants as E
use Rattle.duties.specs.declared.order.Statement.{Statement}
use Rattle.duties.specs.declared.order.Statement.TheVariants as S
use Rattle.duties.specs.declared.sets.TagSet.{TagSet}
use Rattle.duties.specs.Sets.{adding}
use Rattle.names.specs.declared.name.Name.{Name}
use Rattle.names.specs.Names.{name_before, name_of}
use Rattle.ordered.specs.Ascending.{same}
use Rattle.ordered.specs.Finding.{last_place}
use Rattle.text.specs.Split.{past, split}
use Rattle.text.specs.Tokens.{Class, name, number, key, other, class_of, parts}
use Rattle.fields.specs.declared.fault.Cause.{Cause}
use Rattle.fields.specs.declared.fault.Cause.TheVariants.{Shape, Undeclared}
use Rattle.fields.specs.Dues.{due_of, form_of}
use Rattle.fields.specs.Reading.{and_then, by, shaped}

-- the place of a name among those declared, which is its number
abbrev pub place_of : List Name → List ℕ → Option ℕ
place_of ns w = last_place (λ n. same name_before n (name_of w)) ns

abbrev pub declared_at : Option ℕ → Result ℕ Cause
declared_at (Some n) = Ok n
declared_at None = Err Undeclared

abbrev pub number_of : List Name → List ℕ → Result ℕ Cause
number_of ns w = declared_at (place_of ns w)

-- one name
abbrev pub one_name : Class → Result (Unit {0}) Cause
one_name (name s) = Ok tt
one_name (number s) = Err Shape
one_name (key k) = Err Shape
one_name other = Err Shape

-- each is a name
abbrev pub named : List Class → Result (Unit {0}) Cause
named [] = Ok tt
named (c ∷ cs) = and_then (one_name c) (λ _. named cs)

-- a name's number
abbrev pub point_of : List Name → Class → Result ℕ Cause
point_of ns (name s) = number_of ns s
point_of ns (number s) = Err Shape
point_of ns (key k) = Err Shape
point_of ns other = Err Shape

-- the set of the tags named, and of those in m
abbrev pub tags_of : List Name → ℕ → List Class → Result TagSet Cause
tags_of ns m [] = Ok (record { 0 = m })
tags_of ns m (c ∷ cs) = and_then (point_of ns c) (λ n. tags_of ns (adding m n) cs)

-- names joined by +, as a set of tags
abbrev pub read_set : List Name → List ℕ → Result TagSet Cause
read_set tags bs = and_then (named (parts bs)) (λ _. tags_of tags 0 (parts bs))

-- a name, or ! and a name
abbrev pub literal_shape : List ℕ → Result (Unit {0}) Cause
literal_shape bs = by (past (codes "!") bs) (λ rest. one_name (class_of rest)) (one_name (class_of bs))

abbrev pub literal_of : List Name → List ℕ → Result Literal Cause
literal_of points bs =
    by (past (codes "!") bs) (λ rest. and_then (point_of points (class_of rest)) (λ n. Ok (L.Not n))) (and_then (point_of points (class_of bs)) (λ n. Ok (L.Is n)))

-- two words and no more
abbrev pub word_pair : List (List ℕ) → Result (List ℕ × List ℕ) Cause
word_pair [] = Err Shape
word_pair (a ∷ []) = Err Shape
word_pair (a ∷ b ∷ []) = Ok (a, b)
word_pair (a ∷ b ∷ c ∷ ws) = Err Shape

abbrev pub pattern : Due → Task → DutyPattern
pattern u t = record { due = u; task = t }

-- after `scan `: a due and names joined by +
abbrev pub scan_of : List Name → List ℕ → Result DutyPattern Cause
scan_of tags bs =
    and_then (word_pair (split 32 bs)) (λ w.
    and_then (shaped (form_of (parts w.0))) (λ form.
    and_then (named (parts w.1)) (λ _.
    and_then (due_of form) (λ u.
    and_then (tags_of tags 0 (parts w.1)) (λ s. Ok (pattern u (K.Scan s)))))))

-- after `reach ` or `hold `: a due and a literal
abbrev pub on_literal : List Name → List ℕ → Result (Due × Literal) Cause
on_literal points bs =
    and_then (word_pair (split 32 bs)) (λ w.
    and_then (shaped (form_of (parts w.0))) (λ form.
    and_then (literal_shape w.1) (λ _.
    and_then (due_of form) (λ u.
    and_then (literal_of points w.1) (λ l. Ok (u, l))))))

module _ (tags points : List Name) where
  abbrev pub duty_of : List ℕ → Result DutyPattern Cause
  duty_of bs =
      by (past (codes "scan ") bs) (scan_of tags)
      (by (past (codes "reach ") bs) (λ rest. and_then (on_literal points rest) (λ p. Ok (pattern p.0 (K.Reach p.1))))
      (by (past (codes "hold ") bs) (λ rest. and_then (on_literal points rest) (λ p. Ok (pattern p.0 (K.Hold p.1))))
      (Err Shape)))

  -- `met` or `failed` and a duty, or names joined by +
  abbrev pub event_of : List ℕ → Result Event Cause
  event_of bs =
      by (past (codes "met ") bs) (λ rest. and_then (duty_of rest) (λ p. Ok (E.Met p)))
      (by (past (codes "failed ") bs) (λ rest. and_then (duty_of rest) (λ p. Ok (E.Failed p)))
      (and_then (read_set tags bs) (λ s. Ok (E.Tags s))))

  -- one word is a literal, and more are a duty
  abbrev pub by_words : List ℕ → List (List ℕ) → Result Statement Cause
  by_words bs [] = Err Shape
  by_words bs (w ∷ []) = and_then (literal_of points w) (λ l. Ok (S.Literal l))
  by_words bs (w ∷ v ∷ ws) = and_then (duty_of bs) (λ p. Ok (S.Duty p))

  -- `no` and a duty, or what the words say
  abbrev pub statement_of : List ℕ → Result Statement Cause
  statement_of bs =
      by (past (codes "no ") bs) (λ rest. and_then (duty_of rest) (λ p. Ok (S.NoDuty p))) (by_words bs (split 32 bs))
