-- Answers of readers, put together. Assumes nothing.
use Rattle.std.specs.Prelude.{ℕ, List, Some, None, Ok, Err, Option, Result}
use Rattle.std.specs.Borrow.{Bor}
use Rattle.fields.specs.declared.fault.Cause.{Cause}
use Rattle.fields.specs.declared.fault.Cause.TheVariants.{Shape}
use Rattle.fields.specs.declared.fault.WordFault.{WordFault}

-- what comes of an answer: a fault stays
abbrev pub and_then : {X Y E : Type 0} → Result X E → (X → Result Y E) → Result Y E
and_then (Ok x) f = f x
and_then (Err e) f = Err e

-- by what is there, or else
abbrev pub by : {X Y : Type 0} → Option X → (X → Y) → Y → Y
by (Some x) f y = f x
by None f y = y

-- a form that is not there is a fault of shape
abbrev pub shaped : {X : Type 0} → Option X → Result X Cause
shaped (Some x) = Ok x
shaped None = Err Shape

-- a word's answer, its fault with the field
abbrev pub placed : {X : Type 0} → ℕ → Result X Cause → Result X WordFault
placed f (Ok x) = Ok x
placed f (Err e) = Err (record { field = f; cause = e })

-- two parts of a text, by their bytes
abbrev pub pairs : {E : Type 0} → Result (Bor (List ℕ) × Bor (List ℕ)) E → Result (List ℕ × List ℕ) E
pairs (Ok p) = Ok (p.0.now, p.1.now)
pairs (Err e) = Err e
