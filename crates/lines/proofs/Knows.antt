-- Ordered rows that have just the names of a table. Assumes nothing.
use Rattle.std.proofs.Common.{◌≡◌, ℕ, suc, ◌+◌, ◌<◌, ◌≤◌, Bool, true, false, cond, ◌||◌, ltb, List, [], ◌∷◌, ◌++◌, length, Ok, Err, Result, sym, refl, ap, ◌∙◌, arith, length-append}
use Rattle.std.proofs.lemmas.Bool.{cond_both, lt-ltb, or_right}
use Rattle.duties.specs.declared.order.Order.{Order}
use Rattle.fields.specs.Reading.{and_then}
use Rattle.names.specs.declared.name.Name.{Name}
use Rattle.names.specs.Names.{name_before, name_of}
use Rattle.names.specs.NameLaws.{name_irreflexive, name_total, name_transitive}
use Rattle.ordered.specs.declared.rows.OrderedRows.{OrderedRows}
use Rattle.ordered.specs.Ascending.{holding, including, member, rising, same, union}
use Rattle.ordered.specs.Rows.{capacity, items}
use Rattle.ordered.proofs.Sets.{holding_member, length_including, member_union, rising_union, same_set}
use Rattle.sheets.specs.Sheets.{Content, lawful, with_order, with_point, with_tag}
use Rattle.text.specs.Spelling.{is_name}
use Rattle.text.specs.Split.{split}
use Rattle.lines.specs.declared.fault.LineCause.{LineCause}
use Rattle.lines.specs.declared.fault.LineCause.TheVariants as C
use Rattle.lines.specs.Lines.{declared, name_of_field, new_name, one_field, room}
use Rattle.lines.specs.Reads.{Indexes, by_name}
use Rattle.lines.proofs.Keeps.{law}
use Rattle.lines.proofs.Members.{member_first, member_last}

-- the rows hold just what is declared
pub held_declared : (k : OrderedRows Name by_name) (t : Content) → Indexes k t → (n : Name) → holding name_before n (items k) ≡ declared t n
held_declared k t known n =
    holding_member name_before name_irreflexive name_transitive name_total n (items k) known.rising ∙ known.each n

-- a name is read alike by tests that answer alike
module _ (f g : Name → Bool) (alike : (n : Name) → f n ≡ g n) where
  new_alike : (w : List ℕ) → new_name f w ≡ new_name g w
  new_alike w = ap (λ b. cond (is_name w) (cond b (Err C.Repeated) (Ok (name_of w))) (Err C.Name)) (alike (name_of w))

  room_alike : (r : Result (Unit {0}) LineCause) (w : List ℕ) → and_then r (λ _. new_name f w) ≡ and_then r (λ _. new_name g w)
  room_alike (Ok u) w = new_alike w
  room_alike (Err e) w = refl

  field_alike : (r : Result (List ℕ) LineCause) (m : ℕ) → and_then r (λ w. and_then (room 64 m) (λ _. new_name f w)) ≡ and_then r (λ w. and_then (room 64 m) (λ _. new_name g w))
  field_alike (Ok w) m = room_alike (room 64 m) w
  field_alike (Err e) m = refl

  name_alike : (m : ℕ) (bs : List ℕ) → name_of_field f m bs ≡ name_of_field g m bs
  name_alike m bs = field_alike (one_field (split 9 bs)) m

-- what is read by the rows is what is read by the table
pub read_by_rows : (k : OrderedRows Name by_name) (t : Content) → Indexes k t → (m : ℕ) (bs : List ℕ) → name_of_field (λ n. holding name_before n (items k)) m bs ≡ name_of_field (declared t) m bs
read_by_rows k t known m bs = name_alike (λ n. holding name_before n (items k)) (declared t) (held_declared k t known) m bs

module _ {X : Type 0} (less : X → X → Bool) (irreflexive : (x : X) → less x x ≡ false) (transitive : (x y z : X) → less x y ≡ true → less y z ≡ true → less x z ≡ true) (total : (x y : X) → less x y ≡ false → less y x ≡ false → x ≡ y) where
  including_short : (x : X) (xs : List X) → length (including less x xs) ≤ suc (length xs)
  including_short x xs =
      let e = length_including less x xs in
      let le : cond (holding less x xs) (length xs) (suc (length xs)) ≤ suc (length xs) = cond_both (holding less x xs) (length xs) (suc (length xs)) (λ n. n ≤ suc (length xs)) (λ _. omega arith) (λ _. omega arith) in
      omega arith

  union_short : (ys : List X) → length (union less ys []) ≤ length ys
  union_short [] = omega arith
  union_short (y ∷ ys) = let a = including_short y (union less ys []) in let b = union_short ys in omega arith

  or_none : (b : Bool) → (b || false) ≡ b
  or_none true = refl
  or_none false = refl

  -- an ascending list is no longer than one with the same members, in whatever order and however often they stand there
  pub rising_short : (xs ys : List X) → rising less xs ≡ true → ((z : X) → member less z xs ≡ member less z ys) → length xs ≤ length ys
  rising_short xs ys up each =
      let e : xs ≡ union less ys [] = same_set less irreflexive transitive total xs (union less ys []) up (rising_union less irreflexive transitive total ys [] refl) (λ z. each z ∙ sym (member_union less irreflexive transitive total z ys [] ∙ or_none (member less z ys))) in
      let a : length xs ≡ length (union less ys []) = ap length e in
      let b = union_short ys in
      omega arith

-- there are no more rows than names
pub rows_few : (k : OrderedRows Name by_name) (t : Content) → Indexes k t → length (items k) ≤ length t.tags + length t.points
rows_few k t known =
    let a = rising_short name_before name_irreflexive name_transitive name_total (items k) (t.tags ++ t.points) known.rising known.each in
    let b = length-append t.tags t.points in
    omega arith

-- what inserting a name says of the rows before and after, and of its answer
module _ (k l : OrderedRows Name by_name) (t : Content) (n : Name) (r : Bool) (known : Indexes k t)
    (answer : r ≡ (holding name_before n (items k) || ltb (length (items k)) (capacity k)))
    (size : capacity l ≡ capacity k)
    (ascending : rising name_before (items l) ≡ true)
    (members : r ≡ true → (z : Name) → member name_before z (items l) ≡ (same name_before z n || member name_before z (items k))) where
  -- there is room
  pub inserted : length t.tags + length t.points < 128 → r ≡ true
  inserted few =
      let a = rows_few k t known in
      let b = known.room in
      let lt : length (items k) < capacity k = omega arith in
      answer ∙ or_right _ _ (lt-ltb _ _ lt)

  knows : (u : Content) → length t.tags + length t.points < 128 → ((z : Name) → member name_before z (u.tags ++ u.points) ≡ (same name_before z n || member name_before z (t.tags ++ t.points))) → Indexes l u
  knows u few one_more =
      let a = known.room in
      let le : 128 ≤ capacity l = omega arith in
      record {
        rising = ascending;
        each = λ z. members (inserted few) z ∙ ap (λ b. same name_before z n || b) (known.each z) ∙ sym (one_more z);
        room = le;
      }

  pub knows_tag : lawful t ≡ true → length t.tags < 64 → Indexes l (with_tag t n)
  knows_tag h few =
      let a = (law t h).few_points in
      knows (with_tag t n) (omega arith) (λ z. member_first name_before z n t.tags t.points)

  pub knows_point : lawful t ≡ true → length t.points < 64 → Indexes l (with_point t n)
  knows_point h few =
      let a = (law t h).few_tags in
      knows (with_point t n) (omega arith) (λ z. member_last name_before z n t.tags t.points)

-- an order declares no name
pub knows_order : (k : OrderedRows Name by_name) (t : Content) (o : Order) → Indexes k t → Indexes k (with_order t o)
knows_order k t o known = record { rising = known.rising; each = known.each; room = known.room }
