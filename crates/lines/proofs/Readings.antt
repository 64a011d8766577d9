-- What a line makes of a table and of its rows of names. Assumes nothing.
use Rattle.std.proofs.Common.{◌≡◌, ℕ, ◌<◌, Bool, true, false, List, [], ◌∷◌, ◌++◌, length, IsErrAnd, Some, None, Ok, Err, codes, Result, sym, ap, ◌∙◌, subst}
use Rattle.std.proofs.lemmas.Result.{err_from_is_err_and, IfOk-at_ok}
use Rattle.duties.specs.declared.order.Order.{Order}
use Rattle.fields.specs.Reading.{and_then}
use Rattle.names.specs.declared.name.Name.{Name}
use Rattle.names.specs.Names.{name_before}
use Rattle.ordered.specs.declared.rows.OrderedRows.{OrderedRows}
use Rattle.ordered.specs.Ascending.{holding}
use Rattle.ordered.specs.Rows.{items}
use Rattle.sheets.specs.Sheets.{Content, good_name, lawful, with_order, with_point, with_tag}
use Rattle.text.specs.Split.{past}
use Rattle.lines.specs.declared.fault.LineCause.{LineCause}
use Rattle.lines.specs.Lines.{declared, line_of, name_of_field, order_of}
use Rattle.lines.specs.Reads.{Indexes, LineRead, by_name}
use Rattle.lines.proofs.Keeps.{line_lawful, name_made}
use Rattle.lines.proofs.Knows.{read_by_rows}

-- a fault, as the exit of a `?` returns it
pub line_fails : (r : Result (Unit {0}) LineCause) (t u : Content) (line : List ℕ) (e : LineCause) → IsErrAnd r (λ d. d ≡ e) → line_of t line ≡ Err e → u ≡ t → LineRead r t u line
line_fails r t u line e exit says keeps =
    let p = err_from_is_err_and r exit in
    let P : Result (Unit {0}) LineCause → Type 0 = λ q. LineRead q t u line in
    subst P (sym (p.1 ∙ ap Err p.2)) (says, keeps)

-- a table that is read is lawful
pub read_lawful : (t u : Content) (line : List ℕ) → lawful t ≡ true → line_of t line ≡ Ok u → lawful u ≡ true
read_lawful t u line law e = IfOk-at_ok (λ v. lawful v ≡ true) e (line_lawful t line law)

module _ (k : OrderedRows Name by_name) (t : Content) (known : Indexes k t) (line rest : List ℕ) where
  abbrev held : Name → Bool
  held n = holding name_before n (items k)

  -- the line of a tag, by the names that are read from the rows
  pub says_tag : (ts : List Name) (r : Result Name LineCause) → Some rest ≡ past (codes "tag" ++ (9 ∷ [])) line → ts ≡ t.tags → r ≡ name_of_field held (length ts) rest → line_of t line ≡ and_then r (λ n. Ok (with_tag t n))
  says_tag ts r front is reads =
      let e : name_of_field (declared t) (length t.tags) rest ≡ r = sym (reads ∙ ap (λ l. name_of_field held (length l) rest) is ∙ read_by_rows k t known (length t.tags) rest) in
      rw (← front) (ap (λ q. and_then q (λ n. Ok (with_tag t n))) e)

  pub says_point : (ps : List Name) (r : Result Name LineCause) → None ≡ past (codes "tag" ++ (9 ∷ [])) line → Some rest ≡ past (codes "point" ++ (9 ∷ [])) line → ps ≡ t.points → r ≡ name_of_field held (length ps) rest → line_of t line ≡ and_then r (λ n. Ok (with_point t n))
  says_point ps r not-tag front is reads =
      let e : name_of_field (declared t) (length t.points) rest ≡ r = sym (reads ∙ ap (λ l. name_of_field held (length l) rest) is ∙ read_by_rows k t known (length t.points) rest) in
      rw (← not-tag, ← front) (ap (λ q. and_then q (λ n. Ok (with_point t n))) e)

  pub says_order : (r : Result Order LineCause) → None ≡ past (codes "tag" ++ (9 ∷ [])) line → None ≡ past (codes "point" ++ (9 ∷ [])) line → Some rest ≡ past (codes "order" ++ (9 ∷ [])) line → r ≡ order_of t rest → line_of t line ≡ and_then r (λ o. Ok (with_order t o))
  says_order r not-tag not-point front reads =
      rw (← not-tag, ← not-point, ← front) (ap (λ q. and_then q (λ o. Ok (with_order t o))) (sym reads))

  -- there is room for a name that is read
  pub name_room : (ns ms : List Name) (n : Name) → ns ≡ ms → Ok n ≡ name_of_field held (length ns) rest → length ms < 64
  name_room ns ms n is reads =
      let e = sym (reads ∙ ap (λ l. name_of_field held (length l) rest) is) in
      (IfOk-at_ok (λ n. (length ms < 64) × (good_name n ≡ true) × (held n ≡ false)) e (name_made held (length ms) rest)).0
