-- What a due says. Assumes nothing.
use Rattle.std.specs.Prelude.{ℕ, cond, List, [], ◌∷◌, Some, None, Ok, Err, Option, Result, nat_le}
use Rattle.duties.specs.declared.order.Due.{Due}
use Rattle.duties.specs.declared.order.Due.TheVariants as U
use Rattle.duties.specs.Ranges.{last_minute, most_added}
use Rattle.text.specs.declared.token.Keyword.{Keyword}
use Rattle.text.specs.declared.token.Keyword.TheVariants.{Now, Then, No, Met, Failed, Scan, Reach, Hold, Tag, Point, Order}
use Rattle.text.specs.Spelling.{value}
use Rattle.text.specs.Tokens.{Class, name, number, key, other}
use Rattle.fields.specs.declared.due.DueForm.{DueForm}
use Rattle.fields.specs.declared.due.DueForm.TheVariants as F
use Rattle.fields.specs.declared.fault.Cause.{Cause}
use Rattle.fields.specs.declared.fault.Cause.TheVariants.{Over}
use Rattle.fields.specs.Reading.{and_then}

-- the shape of a due, with the digits that it has
pub data Form : Type 0 where
  at : List ℕ → Form
  from_now : List ℕ → Form
  from_t : List ℕ → Form

abbrev pub due_form : DueForm → Form
due_form (F.At s) = at s.now
due_form (F.Now s) = from_now s.now
due_form (F.Then s) = from_t s.now

abbrev pub forms : {E : Type 0} → Result DueForm E → Result Form E
forms (Ok d) = Ok (due_form d)
forms (Err e) = Err e

-- now or T, with the digits of what is added
abbrev pub based : Keyword → List ℕ → Option Form
based Now ds = Some (from_now ds)
based Then ds = Some (from_t ds)
based No ds = None
based Met ds = None
based Failed ds = None
based Scan ds = None
based Reach ds = None
based Hold ds = None
based Tag ds = None
based Point ds = None
based Order ds = None

abbrev pub alone : Class → Option Form
alone (number ds) = Some (at ds)
alone (key k) = based k []
alone (name s) = None
alone other = None

abbrev pub key_plus : Keyword → Class → Option Form
key_plus k (number ds) = based k ds
key_plus k (key j) = None
key_plus k (name s) = None
key_plus k other = None

abbrev pub plus : Class → Class → Option Form
plus (key k) u = key_plus k u
plus (number ds) u = None
plus (name s) u = None
plus other u = None

-- the shape that the tokens of a word have
abbrev pub form_of : List Class → Option Form
form_of [] = None
form_of (t ∷ []) = alone t
form_of (t ∷ u ∷ []) = plus t u
form_of (t ∷ u ∷ v ∷ ts) = None

-- the number that digits write, unless it is over the limit
abbrev pub limited : ℕ → List ℕ → Result ℕ Cause
limited limit ds = cond (nat_le (value 0 ds) limit) (Ok (value 0 ds)) (Err Over)

abbrev pub due_of : Form → Result Due Cause
due_of (at ds) = and_then (limited last_minute ds) (λ n. Ok (U.At n))
due_of (from_now ds) = and_then (limited most_added ds) (λ n. Ok (U.Now n))
due_of (from_t ds) = and_then (limited most_added ds) (λ n. Ok (U.Then n))
