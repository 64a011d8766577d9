-- A text is read as what its lines declare. Assumes nothing.
use Rattle.std.proofs.Common.{◌≡◌, ℕ, ◌+◌, ◌<◌, ◌≤◌, true, cond, eqb, leb, List, [], ◌∷◌, ◌++◌, length, None, Ok, Err, Option, Result, sym, refl, ap, ◌∙◌, subst, arith}
use Rattle.std.proofs.lemmas.List.{append-nil, append_assoc}
use Rattle.std.proofs.lemmas.Bool.{le-leb}
use Rattle.std.proofs.lemmas.Bool.Decides.{nat_tests}
use Rattle.std.specs.List.{AllByRecursion}
use Rattle.duties.specs.declared.order.Statement.{Statement}
use Rattle.names.specs.declared.name.Name.{Name}
use Rattle.fields.specs.Reading.{and_then}
use Rattle.sheets.specs.Sheets.{Content, blank}
use Rattle.text.specs.Spelling.{all}
use Rattle.text.specs.Split.{split}
use Rattle.text.proofs.Splits.{split_some}
use Rattle.lines.specs.declared.fault.LineCause.{LineCause}
use Rattle.lines.specs.Lines.{line_of}
use Rattle.verdicts.specs.declared.fault.LoadFault.{LoadFault}
use Rattle.verdicts.specs.declared.fault.LoadFault.TheVariants as F
use Rattle.verdicts.specs.Texts.{lined, lines_of, loaded, meaning, passed, plain_byte, stray_line, unfinished_line}
use Rattle.grammar.proofs.Pieces.{Lacks, after, all_both, joined, joined_split, lacks_all, split_append, split_one}
use Rattle.verdicts.specs.Declares.{Declare, Declares, DeclaresLine, SpellsEach, a_tag, a_point, an_order, no_field, and_field, no_line, and_line, ended, tabbed}
use Rattle.verdicts.specs.Verdicts.{ATextIsTakenAsWhatItsLinesDeclare}
use Rattle.verdicts.proofs.Bytes.{event_prints, name_prints, no_feed, one_line, statement_prints}
use Rattle.verdicts.proofs.LineRefused.{lines_declared}

-- what stands between the line feeds of a finished text
abbrev pub parted : List (List ℕ) → List (List ℕ)
parted ls = ls ++ [] ∷ []

pub stray_plain : (k : ℕ) (bs : List ℕ) → stray_line k bs ≡ None → all plain_byte bs ≡ true
stray_plain k [] h = refl
stray_plain k (b ∷ bs) h = let i = stray_plain (cond (eqb b 10) (k + 1) k) bs in grind (arith, nat_tests)

pub plain_stray : (k : ℕ) (bs : List ℕ) → all plain_byte bs ≡ true → stray_line k bs ≡ None
plain_stray k [] h = refl
plain_stray k (b ∷ bs) h = let i = plain_stray (cond (eqb b 10) (k + 1) k) bs in grind (arith, nat_tests)

-- the last part is empty
pub finished : (k : ℕ) (ps : List (List ℕ)) → 0 < length ps → unfinished_line k ps ≡ None → (ls : List (List ℕ)) × (ps ≡ parted ls)
finished k [] some h = absurd (omega arith)
finished k ([] ∷ []) some h = ([], refl)
finished k ((b ∷ bs) ∷ []) some h = cc
finished k (p ∷ q ∷ ps) some h = let (ls, e) = finished (k + 1) (q ∷ ps) (omega arith) h in (p ∷ ls, ap (λ l. p ∷ l) e)

pub parted_finished : (k : ℕ) (ls : List (List ℕ)) → unfinished_line k (parted ls) ≡ None
parted_finished k [] = refl
parted_finished k (l ∷ []) = refl
parted_finished k (l ∷ m ∷ ls) = parted_finished (k + 1) (m ∷ ls)

after_ended : (v : List ℕ) (ls : List (List ℕ)) → after 10 v (parted ls) ≡ v ++ 10 ∷ ended ls
after_ended v [] = refl
after_ended v (l ∷ ls) = after_ended (v ++ 10 ∷ l) ls ∙ append_assoc v (10 ∷ l) (10 ∷ ended ls)

pub joined_ended : (ls : List (List ℕ)) → joined 10 (parted ls) ≡ ended ls
joined_ended [] = refl
joined_ended (l ∷ ls) = after_ended l ls

-- lines with no line feed, and what follows
pub split_lines : (ls : List (List ℕ)) (bs : List ℕ) → AllByRecursion (Lacks 10) ls → split 10 (ended ls ++ bs) ≡ ls ++ split 10 bs
split_lines [] bs h = refl
split_lines (l ∷ ls) bs (h, hs) = rw (append_assoc l (10 ∷ ended ls) bs, split_append 10 l (ended ls ++ bs), split_one 10 l h, split_lines ls bs hs)

pub lines_step : (l : List ℕ) (ls : List (List ℕ)) (k : ℕ) (t : Content) → lines_of (parted (l ∷ ls)) k t ≡ and_then (loaded (lined k (line_of t l))) (lines_of (parted ls) (k + 1))
lines_step l [] k t = refl
lines_step l (m ∷ ls) k t = refl

line_passed : (k : ℕ) (r : Result Content LineCause) (g : Content → Result Content LoadFault) (u : Content) → and_then (loaded (lined k r)) g ≡ Ok u → (v : Content) × (r ≡ Ok v) × (g v ≡ Ok u)
line_passed k r g u h = grind arith

lines_declare : (ls : List (List ℕ)) (k : ℕ) (t u : Content) → lines_of (parted ls) k t ≡ Ok u → Declare t ls u
lines_declare [] k t u h = let q : t ≡ u = cc in subst (Declare t []) q no_line
lines_declare (l ∷ ls) k t u h =
    let (v, a, b) = line_passed k (line_of t l) (lines_of (parted ls) (k + 1)) u (sym (lines_step l ls k t) ∙ h) in
    and_line ((lines_declared t l v).0 a) (lines_declare ls (k + 1) v u b)

declare_lines : {t u : Content} {ls : List (List ℕ)} (k : ℕ) → Declare t ls u → lines_of (parted ls) k t ≡ Ok u
declare_lines k no_line = refl
declare_lines k (and_line {t} {u} {v} {l} {ls} h hs) = rw (lines_step l ls k t, (lines_declared t l u).1 h) (declare_lines (k + 1) hs)

fields_feedless : {tags points : List Name} {cs : List (List ℕ)} {ss : List Statement} → SpellsEach tags points cs ss → all one_line (tabbed cs) ≡ true
fields_feedless no_field = refl
fields_feedless (and_field {f} {fs} h hs) = all_both one_line f (tabbed fs) (no_feed f (statement_prints h)) (fields_feedless hs)

line_feedless : {t u : Content} {l : List ℕ} → DeclaresLine t l u → all one_line l ≡ true
line_feedless (a_tag {w} is new lt) = no_feed w (name_prints w is)
line_feedless (a_point {w} is new lt) = no_feed w (name_prints w is)
line_feedless (an_order {ev} {ef} {cs} h k hs le lt apart bound) =
    all_both one_line ev (9 ∷ (ef ++ tabbed cs)) (no_feed ev (event_prints h)) (all_both one_line ef (tabbed cs) (no_feed ef (statement_prints k)) (fields_feedless hs))

-- no line that declares something has a line feed
pub declare_feedless : {t u : Content} {ls : List (List ℕ)} → Declare t ls u → AllByRecursion (Lacks 10) ls
declare_feedless no_line = tt
declare_feedless (and_line {t} {u} {v} {l} h hs) = (lacks_all one_line 10 l refl (line_feedless h), declare_feedless hs)

-- a text that passes the checks, by what they say and by what its lines come to
abbrev pub checked : ℕ → Option ℕ → Option ℕ → Result Content LoadFault → Result Content LoadFault
checked n stray end r =
    cond (leb n 32768) (and_then (passed stray F.StrayByte) (λ _. and_then (passed end F.Unfinished) (λ _. r))) (Err F.TooLong)

checks_passed : (n : ℕ) (stray end : Option ℕ) (r : Result Content LoadFault) (t : Content) → checked n stray end r ≡ Ok t → (n ≤ 32768) × (stray ≡ None) × (end ≡ None) × (r ≡ Ok t)
checks_passed n stray end r t h = grind (arith, nat_tests)

text_declares : (text : List ℕ) (t : Content) → meaning text ≡ Ok t → Declares text t
text_declares text t h =
    let (short, plain, whole, e) = checks_passed (length text) (stray_line 1 text) (unfinished_line 1 (split 10 text)) (lines_of (split 10 text) 1 blank) t h in
    let (ls, is) = finished 1 (split 10 text) (split_some 10 text) whole in
    record {
      short = short;
      plain = stray_plain 1 text plain;
      lines = ls;
      spelled = sym (joined_split 10 text) ∙ ap (joined 10) is ∙ joined_ended ls;
      each = lines_declare ls 1 blank t (ap (λ ps. lines_of ps 1 blank) (sym is) ∙ e);
    }

text_taken : (text : List ℕ) (t : Content) → Declares text t → meaning text ≡ Ok t
text_taken text t d =
    let is : split 10 text ≡ parted d.lines = ap (split 10) d.spelled ∙ ap (split 10) (sym (append-nil (ended d.lines))) ∙ split_lines d.lines [] (declare_feedless d.each) in
    rw (le-leb (length text) 32768 d.short, plain_stray 1 text d.plain, is, parted_finished 1 d.lines) (declare_lines 1 d.each)

pub texts_declared : ATextIsTakenAsWhatItsLinesDeclare
texts_declared text t = (text_declares text t, text_taken text t)
