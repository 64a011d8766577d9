-- What a text says: the sheet that its lines declare, or the first fault. Assumes nothing.
use Rattle.std.specs.Prelude.{ℕ, ◌+◌, Bool, cond, ◌&&◌, ◌||◌, List, [], ◌∷◌, length, Some, None, Ok, Err, Option, Result, ◌==◌, nat_le}
use Rattle.fields.specs.Reading.{and_then}
use Rattle.lines.specs.declared.fault.LineCause.{LineCause}
use Rattle.lines.specs.Lines.{line_of}
use Rattle.sheets.specs.Sheets.{Content, blank}
use Rattle.text.specs.Split.{split}
use Rattle.verdicts.specs.declared.fault.LineFault.{LineFault}
use Rattle.verdicts.specs.declared.fault.LoadFault.{LoadFault}
use Rattle.verdicts.specs.declared.fault.LoadFault.TheVariants as F

-- a line feed, a tab, or a byte that prints
abbrev pub plain_byte : ℕ → Bool
plain_byte b = b == 10 || (b == 9 || (nat_le 32 b && nat_le b 126))

-- the line of the first other byte, lines counted from k
abbrev pub stray_line : ℕ → List ℕ → Option ℕ
stray_line k [] = None
stray_line k (b ∷ bs) = cond (plain_byte b) (stray_line (cond (b == 10) (k + 1) k) bs) (Some k)

-- the last line, where no line feed ends it; the parts are those between line feeds, counted from k
abbrev pub unfinished_line : ℕ → List (List ℕ) → Option ℕ
unfinished_line k [] = None
unfinished_line k ([] ∷ []) = None
unfinished_line k ((b ∷ bs) ∷ []) = Some k
unfinished_line k (p ∷ q ∷ ps) = unfinished_line (k + 1) (q ∷ ps)

-- a check of the whole text: the fault at the line where it fails
abbrev pub passed : Option ℕ → (ℕ → LoadFault) → Result (Unit {0}) LoadFault
passed None fault = Ok tt
passed (Some k) fault = Err (fault k)

-- a line's fault, with the line
abbrev pub lined : {X : Type 0} → ℕ → Result X LineCause → Result X LineFault
lined k (Ok x) = Ok x
lined k (Err c) = Err (record { line = k; cause = c })

-- the line's fault is the text's
abbrev pub loaded : {X : Type 0} → Result X LineFault → Result X LoadFault
loaded (Ok x) = Ok x
loaded (Err e) = Err (F.Line e)

-- line after line, counted from k; what stands after the last line feed is no line
abbrev pub lines_of : List (List ℕ) → ℕ → Content → Result Content LoadFault
lines_of [] k t = Ok t
lines_of (l ∷ []) k t = Ok t
lines_of (l ∷ m ∷ ls) k t = and_then (loaded (lined k (line_of t l))) (lines_of (m ∷ ls) (k + 1))

-- too long, then the bytes, then the end, then the lines
abbrev pub meaning : List ℕ → Result Content LoadFault
meaning text =
    cond (nat_le (length text) 32768)
    (and_then (passed (stray_line 1 text) F.StrayByte) (λ _.
    and_then (passed (unfinished_line 1 (split 10 text)) F.Unfinished) (λ _.
    lines_of (split 10 text) 1 blank)))
    (Err F.TooLong)
