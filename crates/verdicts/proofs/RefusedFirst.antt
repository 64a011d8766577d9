-- A text is refused by its first cause. Assumes nothing.
use Rattle.std.proofs.Common.{◌≡◌, ℕ, ◌+◌, ◌<◌, ◌≤◌, Bool, true, false, cond, eqb, ◌⊎◌, List, [], ◌∷◌, ◌++◌, length, Some, None, Ok, Err, Option, Result, sym, refl, ap, ◌∙◌, subst, inl, inr, zero-add, arith}
use Rattle.std.proofs.lemmas.List.{append_assoc}
use Rattle.std.proofs.lemmas.Bool.{and_from, cases_Bool, cond-true, eqb-true, le-leb, lt-leb}
use Rattle.std.proofs.lemmas.Bool.Decides.{nat_tests}
use Rattle.std.specs.List.{AllByRecursion}
use Rattle.fields.specs.Reading.{and_then}
use Rattle.sheets.specs.Sheets.{Content, blank}
use Rattle.text.specs.Spelling.{all}
use Rattle.text.specs.Split.{split}
use Rattle.text.proofs.Splits.{split_some}
use Rattle.lines.specs.declared.fault.LineCause.{LineCause}
use Rattle.lines.specs.Lines.{line_of}
use Rattle.verdicts.specs.declared.fault.LoadFault.{LoadFault}
use Rattle.verdicts.specs.declared.fault.LoadFault.TheVariants as F
use Rattle.verdicts.specs.Texts.{lined, lines_of, loaded, meaning, plain_byte, stray_line, unfinished_line}
use Rattle.grammar.proofs.Pieces.{Lacks, joined, joined_split, split_append, split_one}
use Rattle.verdicts.specs.Declares.{Declare, no_line, and_line, ended}
use Rattle.verdicts.specs.Refused.{Readable, Refused, RefusesLine, bad_line, feeds, stray_byte, too_long, unfinished}
use Rattle.verdicts.specs.Verdicts.{ARefusalIsTheFirstCause}
use Rattle.verdicts.proofs.LineRefused.{lines_declared, lines_refused}
use Rattle.verdicts.proofs.LineFields.{none_lacks, parts_without}
use Rattle.verdicts.proofs.TextDeclared.{checked, declare_feedless, finished, joined_ended, lines_step, parted, parted_finished, plain_stray, split_lines, stray_plain}

-- a line feed is counted
counted : (c : Bool) (m k : ℕ) → cond c (m + 1) m + k ≡ m + cond c (k + 1) k
counted c m k = grind arith

-- the first byte that is not plain, and its line
abbrev Stray : ℕ → List ℕ → ℕ → Type 0
Stray k bs n = (before : List ℕ) × (b : ℕ) × (rest : List ℕ) × (bs ≡ before ++ b ∷ rest) × (all plain_byte before ≡ true) × (plain_byte b ≡ false) × (feeds before + k ≡ n)

stray_found : (k : ℕ) (bs : List ℕ) (n : ℕ) → stray_line k bs ≡ Some n → Stray k bs n
stray_found k [] n h = cc
stray_found k (b ∷ bs) n h =
    elim (cases_Bool (plain_byte b)) [
      | inl e ↦
          let (before, c, rest, is, plain, bad, at) = stray_found (cond (eqb b 10) (k + 1) k) bs n (sym (cond-true (plain_byte b) _ _ e) ∙ h) in
          (b ∷ before, c, rest, ap (λ l. b ∷ l) is, and_from (plain_byte b) (all plain_byte before) e plain, bad, counted (eqb b 10) (feeds before) k ∙ at)
      | inr e ↦ ([], b, bs, refl, refl, e, let q = rw e at h in let at : k ≡ n = cc in zero-add k ∙ at)
    ]

stray_there : (k : ℕ) (before : List ℕ) (b : ℕ) (rest : List ℕ) → all plain_byte before ≡ true → plain_byte b ≡ false → stray_line k (before ++ b ∷ rest) ≡ Some (feeds before + k)
stray_there k [] b rest h bad = grind (arith, nat_tests)
stray_there k (c ∷ before) b rest h bad = let i = stray_there (cond (eqb c 10) (k + 1) k) before b rest in grind (arith, nat_tests)

-- a text is empty, or it has a last byte
last_byte : (bs : List ℕ) → (bs ≡ []) ⊎ ((before : List ℕ) × (b : ℕ) × (bs ≡ before ++ b ∷ []))
last_byte [] = inl refl
last_byte (b ∷ bs) =
    elim (last_byte bs) [
      | inl e ↦ inr ([], b, ap (λ l. b ∷ l) e)
      | inr (before, c, e) ↦ inr (b ∷ before, c, ap (λ l. b ∷ l) e)
    ]

unfinished_there : (k : ℕ) (before : List ℕ) (b : ℕ) → eqb b 10 ≡ false → unfinished_line k (split 10 (before ++ b ∷ [])) ≡ Some (feeds before + k)
unfinished_there k [] b h = grind (arith, nat_tests)
unfinished_there k (c ∷ before) b h =
    let i = unfinished_there k before b h in
    let j = unfinished_there (k + 1) before b h in
    let some = split_some 10 (before ++ b ∷ []) in
    grind (arith, nat_tests)

-- the last byte is no line feed
unfinished_found : (k : ℕ) (bs : List ℕ) (n : ℕ) → unfinished_line k (split 10 bs) ≡ Some n → (before : List ℕ) × (b : ℕ) × (bs ≡ before ++ b ∷ []) × (eqb b 10 ≡ false) × (feeds before + k ≡ n)
unfinished_found k bs n h =
    elim (last_byte bs) [
      | inl e ↦ cc (ap (λ l. unfinished_line k (split 10 l)) e)
      | inr (before, b, e) ↦
          elim (cases_Bool (eqb b 10)) [
            | inl ten ↦
                let is : split 10 bs ≡ parted (split 10 before) = ap (split 10) e ∙ ap (λ c. split 10 (before ++ c ∷ [])) (eqb-true b 10 ten) ∙ split_append 10 before [] in
                cc (ap (unfinished_line k) is, parted_finished k (split 10 before))
            | inr no_feed ↦
                (before, b, e, no_feed, (cc (unfinished_there k before b no_feed, ap (λ l. unfinished_line k (split 10 l)) e)))
          ]
    ]

line_failed : (k : ℕ) (r : Result Content LineCause) (g : Content → Result Content LoadFault) (f : LoadFault) → and_then (loaded (lined k r)) g ≡ Err f → ((c : LineCause) × (r ≡ Err c) × (F.Line (record { line = k; cause = c }) ≡ f)) ⊎ ((v : Content) × (r ≡ Ok v) × (g v ≡ Err f))
line_failed k r g f h = grind arith

-- the first line that declares nothing, after those that declare a table
abbrev BadLine : ℕ → Content → List (List ℕ) → LoadFault → Type 0
BadLine k t ls f = (before : List (List ℕ)) × (l : List ℕ) × (rest : List (List ℕ)) × (u : Content) × (c : LineCause) × (ls ≡ before ++ l ∷ rest) × Declare t before u × RefusesLine u l c × (F.Line (record { line = length before + k; cause = c }) ≡ f)

line_found : (ls : List (List ℕ)) (k : ℕ) (t : Content) (f : LoadFault) → lines_of (parted ls) k t ≡ Err f → BadLine k t ls f
line_found [] k t f h = cc
line_found (l ∷ ls) k t f h =
    elim (line_failed k (line_of t l) (lines_of (parted ls) (k + 1)) f (sym (lines_step l ls k t) ∙ h)) [
      | inl (c, is, at) ↦
          ([], l, ls, t, c, refl, no_line, (lines_refused t l c).0 is, ap (λ n. F.Line (record { line = n; cause = c })) (zero-add k) ∙ at)
      | inr (v, e, i) ↦
          let (before, m, rest, u, c, is, declare, bad, at) = line_found ls (k + 1) v f i in
          let n : length (l ∷ before) + k ≡ length before + (k + 1) = omega arith in
          (l ∷ before, m, rest, u, c, ap (λ q. l ∷ q) is, and_line ((lines_declared t l v).0 e) declare, bad, ap (λ n. F.Line (record { line = n; cause = c })) n ∙ at)
    ]

line_there : {t u : Content} {ls : List (List ℕ)} (k : ℕ) (m : List ℕ) (ms : List (List ℕ)) (c : LineCause) → Declare t ls u → RefusesLine u m c → lines_of (parted (ls ++ m ∷ ms)) k t ≡ Err (F.Line (record { line = length ls + k; cause = c }))
line_there k m ms c (no_line {t}) h =
    rw (lines_step m ms k t, (lines_refused t m c).1 h) (ap (λ n. Err (F.Line (record { line = n; cause = c }))) (sym (zero-add k)))
line_there k m ms c (and_line {t} {u} {v} {l} {ls} g hs) h =
    let n : length ls + (k + 1) ≡ length (l ∷ ls) + k = omega arith in
    rw (lines_step l (ls ++ m ∷ ms) k t, (lines_declared t l u).1 g) (line_there (k + 1) m ms c hs h ∙ ap (λ n. Err (F.Line (record { line = n; cause = c }))) n)

all_middle : {X : Type 0} (P : X → Type 0) (xs : List X) (y : X) (zs : List X) → AllByRecursion P (xs ++ y ∷ zs) → P y
all_middle P [] y zs h = h.0
all_middle P (x ∷ xs) y zs h = all_middle P xs y zs h.1

ended_append : (ls ms : List (List ℕ)) → ended (ls ++ ms) ≡ ended ls ++ ended ms
ended_append [] ms = refl
ended_append (l ∷ ls) ms = ap (λ bs. l ++ 10 ∷ bs) (ended_append ls ms) ∙ sym (append_assoc l (10 ∷ ended ls) (ended ms))

-- what ends with a line feed is finished
ended_parted : (ls : List (List ℕ)) → (qs : List (List ℕ)) × (split 10 (ended ls) ≡ parted qs)
ended_parted [] = ([], refl)
ended_parted (l ∷ ls) =
    let (qs, e) = ended_parted ls in
    (split 10 l ++ qs, split_append 10 l (ended ls) ∙ ap (λ ps. split 10 l ++ ps) e ∙ sym (append_assoc (split 10 l) qs ([] ∷ [])))

line_parted : (ls ms : List (List ℕ)) (l : List ℕ) → AllByRecursion (Lacks 10) ls → Lacks 10 l → (qs : List (List ℕ)) × (split 10 (ended (ls ++ l ∷ ms)) ≡ parted (ls ++ l ∷ qs))
line_parted ls ms l hs h =
    let (qs, e) = ended_parted ms in
    let is : split 10 (l ++ 10 ∷ ended ms) ≡ l ∷ parted qs = split_append 10 l (ended ms) ∙ ap (λ ps. ps ++ split 10 (ended ms)) (split_one 10 l h) ∙ ap (λ ps. l ∷ ps) e in
    (qs, ap (split 10) (ended_append ls (l ∷ ms)) ∙ split_lines ls (l ++ 10 ∷ ended ms) hs ∙ ap (λ ps. ls ++ ps) is ∙ sym (append_assoc ls (l ∷ qs) ([] ∷ [])))

checks_failed : (n : ℕ) (stray end : Option ℕ) (r : Result Content LoadFault) (f : LoadFault) → checked n stray end r ≡ Err f → ((32768 < n) × (F.TooLong ≡ f)) ⊎ ((n ≤ 32768) × (((k : ℕ) × (stray ≡ Some k) × (F.StrayByte k ≡ f)) ⊎ ((stray ≡ None) × (((k : ℕ) × (end ≡ Some k) × (F.Unfinished k ≡ f)) ⊎ ((end ≡ None) × (r ≡ Err f))))))
checks_failed n stray end r f h = grind (arith, nat_tests)

module _ (text : List ℕ) (f : LoadFault) where
  finished_refused : Readable text → unfinished_line 1 (split 10 text) ≡ None → lines_of (split 10 text) 1 blank ≡ Err f → Refused text f
  finished_refused readable e h =
      let (ls, is) = finished 1 (split 10 text) (split_some 10 text) e in
      let (before, l, rest, u, c, parts, declare, bad, at) = line_found ls 1 blank f (ap (λ ps. lines_of ps 1 blank) (sym is) ∙ h) in
      let spelled : text ≡ ended (before ++ l ∷ rest) = sym (joined_split 10 text) ∙ ap (joined 10) is ∙ joined_ended ls ∙ ap ended parts in
      let apart : split 10 text ≡ before ++ l ∷ (rest ++ [] ∷ []) = is ∙ ap parted parts ∙ append_assoc before (l ∷ rest) ([] ∷ []) in
      let one = all_middle (λ p. feeds p ≡ 0) before l (rest ++ [] ∷ []) (subst (AllByRecursion (λ p. feeds p ≡ 0)) apart (parts_without 10 text)) in
      subst (λ v. Refused v f) (sym spelled) (subst (Refused (ended (before ++ l ∷ rest))) at (bad_line l rest (subst Readable spelled readable) declare one bad))

  unfinished_refused : Readable text → (k : ℕ) → unfinished_line 1 (split 10 text) ≡ Some k → F.Unfinished k ≡ f → Refused text f
  unfinished_refused readable k e fault =
      let (before, b, is, no_feed, at) = unfinished_found 1 text k e in
      subst (λ v. Refused v f) (sym is) (subst (Refused (before ++ b ∷ [])) (ap F.Unfinished at ∙ fault) (unfinished before b (subst Readable is readable) no_feed))

  stray_refused : length text ≤ 32768 → (k : ℕ) → stray_line 1 text ≡ Some k → F.StrayByte k ≡ f → Refused text f
  stray_refused short k e fault =
      let (before, b, rest, is, plain, bad, at) = stray_found 1 text k e in
      subst (λ v. Refused v f) (sym is) (subst (Refused (before ++ b ∷ rest)) (ap F.StrayByte at ∙ fault) (stray_byte before rest b (subst (λ v. length v ≤ 32768) is short) plain bad))

  text_refused : meaning text ≡ Err f → Refused text f
  text_refused h =
      elim (checks_failed (length text) (stray_line 1 text) (unfinished_line 1 (split 10 text)) (lines_of (split 10 text) 1 blank) f h) [
        | inl (long, fault) ↦ subst (Refused text) fault (too_long long)
        | inr (short, inl (k, e, fault)) ↦ stray_refused short k e fault
        | inr (short, inr (plain, inl (k, e, fault))) ↦ unfinished_refused (short, stray_plain 1 text plain) k e fault
        | inr (short, inr (plain, inr (whole, e))) ↦ finished_refused (short, stray_plain 1 text plain) whole e
      ]

refused_text : {text : List ℕ} {f : LoadFault} → Refused text f → meaning text ≡ Err f
refused_text (too_long {text} h) = rw (lt-leb (length text) 32768 h)
refused_text (stray_byte before rest b short plain bad) =
    rw (le-leb (length (before ++ b ∷ rest)) 32768 short, stray_there 1 before b rest plain bad)
refused_text (unfinished before b (short, plain) no_feed) =
    let text = before ++ b ∷ [] in
    rw (le-leb (length text) 32768 short, plain_stray 1 text plain, unfinished_there 1 before b no_feed)
refused_text (bad_line {ls} l ms {t} {c} (short, plain) declare one bad) =
    let text = ended (ls ++ l ∷ ms) in
    let (qs, is) = line_parted ls ms l (declare_feedless declare) (none_lacks 10 l one) in
    rw (le-leb (length text) 32768 short, plain_stray 1 text plain, is, parted_finished 1 (ls ++ l ∷ qs)) (line_there 1 l qs c declare bad)

pub texts_refused : ARefusalIsTheFirstCause
texts_refused text f = (text_refused text f, refused_text)
