-- A line keeps the table lawful. Assumes nothing.
use Rattle.std.proofs.Common.{◌≡◌, ℕ, ◌^◌, ◌<◌, ◌≤◌, Bool, true, false, ◌&&◌, ltb, List, [], ◌∷◌, ◌++◌, length, IfOk, Some, None, Ok, Err, codes, Option, Result, sym, refl, subst, arith, pow_mono}
use Rattle.std.proofs.lemmas.Slice.Eq.{bytes_eq-Decides}
use Rattle.std.proofs.lemmas.List.{length_push}
use Rattle.std.proofs.lemmas.Result.{IfOk-weaker}
use Rattle.std.proofs.lemmas.Bool.{and_from, and_parts, cond_both, le-leb, leb-true, lt-ltb, ltb-true}
use Rattle.std.specs.Str.{bytes_eq}
use Rattle.duties.specs.declared.duty.Literal.{Literal}
use Rattle.duties.specs.declared.duty.Literal.TheVariants.{Is, Not}
use Rattle.duties.specs.declared.duty.Task.{Task}
use Rattle.duties.specs.declared.duty.Task.TheVariants.{Scan, Reach, Hold}
use Rattle.duties.specs.declared.order.Due.{Due}
use Rattle.duties.specs.declared.order.Due.TheVariants.{At, Now, Then}
use Rattle.duties.specs.declared.order.DutyPattern.{DutyPattern}
use Rattle.duties.specs.declared.order.Event.{Event}
use Rattle.duties.specs.declared.order.Event.TheVariants.{Tags, Met, Failed}
use Rattle.duties.specs.declared.order.Order.{Order}
use Rattle.duties.specs.declared.order.Statement.{Statement}
use Rattle.duties.specs.declared.order.Statement.TheVariants.{Literal as Says, Duty as Asks, NoDuty as Denies}
use Rattle.duties.specs.Ranges.{condition_fits, due_fits, event_fits, every, literal_apart, literal_fits, order_fits, packed, pattern_fits, set_fits, statement_fits, t_bound, task_fits}
use Rattle.fields.specs.declared.fault.Cause.{Cause}
use Rattle.fields.specs.declared.fault.WordFault.{WordFault}
use Rattle.fields.specs.Fields.{event_of, statement_of}
use Rattle.fields.specs.Reading.{and_then, by, placed}
use Rattle.names.specs.declared.name.Name.{Name}
use Rattle.names.specs.Names.{name_of}
use Rattle.names.proofs.NameBytes.{name_kept}
use Rattle.sheets.specs.Sheets.{Content, apart, good_name, lawful, with_order, with_point, with_tag}
use Rattle.text.specs.Spelling.{is_name, name_like}
use Rattle.text.specs.Split.{past, split}
use Rattle.lines.specs.declared.fault.LineCause.{LineCause}
use Rattle.lines.specs.declared.fault.LineCause.TheVariants as C
use Rattle.lines.specs.Lines.{checked, conditions_of, declared, line_of, name_of_field, new_name, one_field, optional, order_fields, order_of, room, worded}
use Rattle.grammar.proofs.Fits.{event_fit, statement_fit}
use Rattle.lines.proofs.Members.{apart_first, apart_last}

-- what holds of each good answer
module _ {X E : Type 0} (P : X → Type 0) where
  made_each : (r : Result X E) → ((x : X) → r ≡ Ok x → P x) → IfOk r P
  made_each (Ok x) h = h x refl
  made_each (Err e) h = tt

  then_made : {Y : Type 0} (Q : Y → Type 0) (r : Result Y E) (f : Y → Result X E) → IfOk r Q → ((y : Y) → Q y → IfOk (f y) P) → IfOk (and_then r f) P
  then_made Q (Ok y) f q h = h y q
  then_made Q (Err e) f q h = tt

  by_made : {Y : Type 0} (o : Option Y) (f : Y → Result X E) (r : Result X E) → ((y : Y) → IfOk (f y) P) → IfOk r P → IfOk (by o f r) P
  by_made (Some y) f r h k = h y
  by_made None f r h k = k

module _ {X : Type 0} (P : X → Type 0) where
  placed_made : (k : ℕ) (r : Result X Cause) → IfOk r P → IfOk (placed k r) P
  placed_made k (Ok x) h = h
  placed_made k (Err e) h = tt

  worded_made : (r : Result X WordFault) → IfOk r P → IfOk (worded r) P
  worded_made (Ok x) h = h
  worded_made (Err e) h = tt

abbrev Any : {X : Type 0} → X → Type 0
Any x = Unit {0}

room_made : (most n : ℕ) → IfOk (room most n) (λ _. n < most)
room_made most n =
    cond_both (ltb n most) (Ok tt) (Err C.Full) (λ (r : Result (Unit {0}) LineCause). IfOk r (λ _. n < most)) (λ e. ltb-true n most e) (λ _. tt)

-- a name that is read is good
good : (w : List ℕ) → is_name w ≡ true → good_name (name_of w) ≡ true
good w h =
    let kept = name_kept w (and_parts (name_like w) _ h).0 in
    let P : List ℕ → Type 0 = λ v. (is_name v && bytes_eq (name_of w).bytes (name_of v).bytes) ≡ true in
    subst P (sym kept) (and_from _ _ h ((bytes_eq-Decides (name_of w).bytes (name_of w).bytes).1 refl))

module _ (known : Name → Bool) where
  abbrev New : Name → Type 0
  New n = (good_name n ≡ true) × (known n ≡ false)

  new_made : (w : List ℕ) → IfOk (new_name known w) New
  new_made w =
      cond_both (is_name w) _ _ (λ (r : Result Name LineCause). IfOk r New)
      (λ h. cond_both (known (name_of w)) _ _ (λ (r : Result Name LineCause). IfOk r New) (λ _. tt) (λ new. (good w h, new)))
      (λ _. tt)

  -- a name that is read is new, and there is room for it
  pub name_made : (m : ℕ) (bs : List ℕ) → IfOk (name_of_field known m bs) (λ n. (m < 64) × (good_name n ≡ true) × (known n ≡ false))
  name_made m bs =
      let P : Name → Type 0 = λ n. (m < 64) × (good_name n ≡ true) × (known n ≡ false) in
      then_made P Any (one_field (split 9 bs)) (λ w. and_then (room 64 m) (λ _. new_name known w)) (made_each Any _ (λ _ _. tt))
      (λ w _. then_made P (λ _. m < 64) (room 64 m) (λ _. new_name known w) (room_made 64 m) (λ _ lt. IfOk-weaker (new_name known w) New P (λ n h. (lt, h.0, h.1)) (new_made w)))

module _ {X : Type 0} where
  every_push : (f : X → Bool) (xs : List X) (x : X) → every f xs ≡ true → f x ≡ true → every f (xs ++ (x ∷ [])) ≡ true
  every_push f [] x h k = and_from _ _ k refl
  every_push f (y ∷ xs) x h k = let p = and_parts _ _ h in and_from _ _ p.0 (every_push f xs x p.1 k)

  every_more : (f g : X → Bool) → ((x : X) → f x ≡ true → g x ≡ true) → (xs : List X) → every f xs ≡ true → every g xs ≡ true
  every_more f g k [] h = refl
  every_more f g k (x ∷ xs) h = let p = and_parts _ _ h in and_from _ _ (k x p.0) (every_more f g k xs p.1)

-- what fits still fits where more is declared
module _ (a b m n : ℕ) (tags : a ≤ m) (points : b ≤ n) where
  set_more : (s : ℕ) → set_fits a b s ≡ true → set_fits m n s ≡ true
  set_more s h =
      let p = and_parts _ _ h in
      let lt = ltb-true s (2 ^ a) p.1 in
      let le : 2 ^ a ≤ 2 ^ m = pow_mono tags in
      and_from _ _ p.0 (lt-ltb s (2 ^ m) (omega arith))

  below_more : (k : ℕ) → ltb k b ≡ true → ltb k n ≡ true
  below_more k h = lt-ltb k n (omega (arith, ltb-true k b h))

  literal_more : (l : Literal) → literal_fits a b l ≡ true → literal_fits m n l ≡ true
  literal_more (Is k) h = below_more k h
  literal_more (Not k) h = below_more k h

  task_more : (t : Task) → task_fits a b t ≡ true → task_fits m n t ≡ true
  task_more (Scan s) h = set_more s.0 h
  task_more (Reach l) h = literal_more l h
  task_more (Hold l) h = literal_more l h

  due_more : (u : Due) → due_fits a b u ≡ true → due_fits m n u ≡ true
  due_more (At u) h = h
  due_more (Now c) h = h
  due_more (Then c) h = h

  pattern_more : (p : DutyPattern) → pattern_fits a b p ≡ true → pattern_fits m n p ≡ true
  pattern_more p h = let q = and_parts _ _ h in and_from _ _ (due_more p.due q.0) (task_more p.task q.1)

  event_more : (e : Event) → event_fits a b e ≡ true → event_fits m n e ≡ true
  event_more (Tags s) h = set_more s.0 h
  event_more (Met p) h = pattern_more p h
  event_more (Failed p) h = pattern_more p h

  statement_more : (s : Statement) → statement_fits a b s ≡ true → statement_fits m n s ≡ true
  statement_more (Says l) h = literal_more l h
  statement_more (Asks p) h = pattern_more p h
  statement_more (Denies p) h = pattern_more p h

  condition_more : (c : Option Statement) → condition_fits a b c ≡ true → condition_fits m n c ≡ true
  condition_more None h = refl
  condition_more (Some s) h = statement_more s h

  order_more : (o : Order) → order_fits a b o ≡ true → order_fits m n o ≡ true
  order_more o h =
      let p = and_parts _ _ h in
      let q = and_parts _ _ p.1 in
      let r = and_parts _ _ q.1 in
      and_from _ _ (event_more o.event p.0)
      (and_from _ _ (statement_more o.effect q.0)
      (and_from _ _ (every_more (condition_fits a b) (condition_fits m n) condition_more o.conditions r.0) r.1))

  orders_more : (os : List Order) → every (order_fits a b) os ≡ true → every (order_fits m n) os ≡ true
  orders_more os h = every_more (order_fits a b) (order_fits m n) order_more os h

-- the parts of the law
pub record Law (t : Content) : Type 0 where
  pub few_tags : length t.tags ≤ 64
  pub few_points : length t.points ≤ 64
  pub few_orders : length t.orders ≤ 128
  pub good_tags : every good_name t.tags ≡ true
  pub good_points : every good_name t.points ≡ true
  pub all_apart : apart (t.tags ++ t.points) ≡ true
  pub all_fit : every (order_fits (length t.tags) (length t.points)) t.orders ≡ true

pub law : (t : Content) → lawful t ≡ true → Law t
law t h =
    let a = and_parts _ _ h in
    let b = and_parts _ _ a.1 in
    let c = and_parts _ _ b.1 in
    let d = and_parts _ _ c.1 in
    let e = and_parts _ _ d.1 in
    let f = and_parts _ _ e.1 in
    record {
      few_tags = leb-true _ _ a.0;
      few_points = leb-true _ _ b.0;
      few_orders = leb-true _ _ c.0;
      good_tags = d.0;
      good_points = e.0;
      all_apart = f.0;
      all_fit = f.1;
    }

lawful_by : (t : Content) → Law t → lawful t ≡ true
lawful_by t l =
    and_from _ _ (le-leb _ _ l.few_tags)
    (and_from _ _ (le-leb _ _ l.few_points)
    (and_from _ _ (le-leb _ _ l.few_orders)
    (and_from _ _ l.good_tags (and_from _ _ l.good_points (and_from _ _ l.all_apart l.all_fit)))))

module _ (t : Content) (l : Law t) where
  tag_lawful : (n : Name) → length t.tags < 64 → good_name n ≡ true → declared t n ≡ false → lawful (with_tag t n) ≡ true
  tag_lawful n few g new =
      let more = length_push t.tags n in
      let le : length (t.tags ++ (n ∷ [])) ≤ 64 = omega arith in
      let wider : length t.tags ≤ length (t.tags ++ (n ∷ [])) = omega arith in
      let same : length t.points ≤ length t.points = omega arith in
      lawful_by (with_tag t n)
      (record {
        few_tags = le;
        few_points = l.few_points;
        few_orders = l.few_orders;
        good_tags = every_push good_name t.tags n l.good_tags g;
        good_points = l.good_points;
        all_apart = apart_first n t.tags t.points l.all_apart new;
        all_fit = orders_more _ _ _ _ wider same t.orders l.all_fit;
      })

  point_lawful : (n : Name) → length t.points < 64 → good_name n ≡ true → declared t n ≡ false → lawful (with_point t n) ≡ true
  point_lawful n few g new =
      let more = length_push t.points n in
      let le : length (t.points ++ (n ∷ [])) ≤ 64 = omega arith in
      let wider : length t.points ≤ length (t.points ++ (n ∷ [])) = omega arith in
      let same : length t.tags ≤ length t.tags = omega arith in
      lawful_by (with_point t n)
      (record {
        few_tags = l.few_tags;
        few_points = le;
        few_orders = l.few_orders;
        good_tags = l.good_tags;
        good_points = every_push good_name t.points n l.good_points g;
        all_apart = apart_last n t.tags t.points l.all_apart new;
        all_fit = orders_more _ _ _ _ same wider t.orders l.all_fit;
      })

  order_lawful : (o : Order) → length t.orders < 128 → order_fits (length t.tags) (length t.points) o ≡ true → lawful (with_order t o) ≡ true
  order_lawful o few fits =
      let more = length_push t.orders o in
      let le : length (t.orders ++ (o ∷ [])) ≤ 128 = omega arith in
      lawful_by (with_order t o)
      (record {
        few_tags = l.few_tags;
        few_points = l.few_points;
        few_orders = le;
        good_tags = l.good_tags;
        good_points = l.good_points;
        all_apart = l.all_apart;
        all_fit = every_push _ t.orders o l.all_fit fits;
      })

-- the four places in turn
abbrev Place : Type 0
Place = Result (Option Statement) WordFault

abbrev last_place : Option Statement → Option Statement → Option Statement → Place → Result (List (Option Statement)) WordFault
last_place a b c r = and_then r (λ d. Ok (a ∷ b ∷ c ∷ d ∷ []))

abbrev third_place : Option Statement → Option Statement → Place → Place → Result (List (Option Statement)) WordFault
third_place a b q r = and_then q (λ c. last_place a b c r)

abbrev second_place : Option Statement → Place → Place → Place → Result (List (Option Statement)) WordFault
second_place a p q r = and_then p (λ b. third_place a b q r)

module _ (tags points : List Name) (few : length tags ≤ 64) where
  abbrev Said : Statement → Type 0
  Said s = statement_fits (length tags) (length points) s ≡ true

  abbrev Packed : List (Option Statement) → Type 0
  Packed cs = (every (condition_fits (length tags) (length points)) cs ≡ true) × (packed cs ≡ true)

  statement_made : (w : List ℕ) → IfOk (statement_of tags points w) Said
  statement_made w = made_each Said (statement_of tags points w) (statement_fit tags points few w)

  -- where there is a field there is a condition
  filled : (k : ℕ) (w : List ℕ) (ws : List (List ℕ)) (f : Option Statement → Result (List (Option Statement)) WordFault) → ((s : Statement) → Said s → IfOk (f (Some s)) Packed) → IfOk (and_then (optional tags points k (w ∷ ws)) f) Packed
  filled k w ws f h =
      then_made Packed (λ o. IfOk (f o) Packed) (optional tags points k (w ∷ ws)) f
      (then_made (λ o. IfOk (f o) Packed) Said (placed k (statement_of tags points w)) (λ s. Ok (Some s)) (placed_made Said k (statement_of tags points w) (statement_made w)) h)
      (λ o m. m)

  conditions_made : (ws : List (List ℕ)) → IfOk (conditions_of tags points ws) Packed
  conditions_made [] = (refl, refl)
  conditions_made (a ∷ []) = filled 4 a [] (λ x. second_place x (Ok None) (Ok None) (Ok None)) (λ s h. (and_from _ _ h refl, refl))
  conditions_made (a ∷ b ∷ []) =
      filled 4 a (b ∷ []) (λ x. second_place x (optional tags points 5 (b ∷ [])) (Ok None) (Ok None))
      (λ s h. filled 5 b [] (λ y. third_place (Some s) y (Ok None) (Ok None)) (λ u i. (and_from _ _ h (and_from _ _ i refl), refl)))
  conditions_made (a ∷ b ∷ c ∷ []) =
      filled 4 a (b ∷ c ∷ []) (λ x. second_place x (optional tags points 5 (b ∷ c ∷ [])) (optional tags points 6 (c ∷ [])) (Ok None))
      (λ s h. filled 5 b (c ∷ []) (λ y. third_place (Some s) y (optional tags points 6 (c ∷ [])) (Ok None))
      (λ u i. filled 6 c [] (λ z. last_place (Some s) (Some u) z (Ok None)) (λ v j. (and_from _ _ h (and_from _ _ i (and_from _ _ j refl)), refl))))
  conditions_made (a ∷ b ∷ c ∷ d ∷ ws) =
      filled 4 a (b ∷ c ∷ d ∷ ws) (λ x. second_place x (optional tags points 5 (b ∷ c ∷ d ∷ ws)) (optional tags points 6 (c ∷ d ∷ ws)) (optional tags points 7 (d ∷ ws)))
      (λ s h. filled 5 b (c ∷ d ∷ ws) (λ y. third_place (Some s) y (optional tags points 6 (c ∷ d ∷ ws)) (optional tags points 7 (d ∷ ws)))
      (λ u i. filled 6 c (d ∷ ws) (λ z. last_place (Some s) (Some u) z (optional tags points 7 (d ∷ ws)))
      (λ v j. filled 7 d ws (λ d. Ok (Some s ∷ Some u ∷ Some v ∷ d ∷ [])) (λ w k. (and_from _ _ h (and_from _ _ i (and_from _ _ j (and_from _ _ k refl))), refl)))))

-- the fields of an order, read one after the other
module _ (t : Content) where
  abbrev effect_next : Event → List (List ℕ) → Statement → Result Order LineCause
  effect_next ev ws ef = and_then (worded (conditions_of t.tags t.points ws)) (λ cs. checked (record { event = ev; effect = ef; conditions = cs }))

  abbrev event_next : List ℕ → List (List ℕ) → Event → Result Order LineCause
  event_next w ws ev = and_then (worded (placed 3 (statement_of t.tags t.points w))) (effect_next ev ws)

  abbrev room_next : List ℕ × List ℕ × List (List ℕ) → Result Order LineCause
  room_next f = and_then (worded (placed 2 (event_of t.tags t.points f.0))) (event_next f.1 f.2)

-- an order that is read fits, and there is room for it
module _ (t : Content) (few : length t.tags ≤ 64) where
  abbrev Fit : Order → Type 0
  Fit o = (length t.orders < 128) × (order_fits (length t.tags) (length t.points) o ≡ true)

  checked_made : (o : Order) → length t.orders < 128 → event_fits (length t.tags) (length t.points) o.event ≡ true → statement_fits (length t.tags) (length t.points) o.effect ≡ true → every (condition_fits (length t.tags) (length t.points)) o.conditions ≡ true → packed o.conditions ≡ true → IfOk (checked o) Fit
  checked_made o lt ev ef cs p =
      cond_both (literal_apart o) _ _ (λ (r : Result Order LineCause). IfOk r Fit)
      (λ a. cond_both (t_bound o) _ _ (λ (r : Result Order LineCause). IfOk r Fit) (λ b. (lt, and_from _ _ ev (and_from _ _ ef (and_from _ _ cs (and_from _ _ p (and_from _ _ a b)))))) (λ _. tt))
      (λ _. tt)

  pub order_made : (bs : List ℕ) → IfOk (order_of t bs) Fit
  order_made bs =
      let E : Event → Type 0 = λ e. event_fits (length t.tags) (length t.points) e ≡ true in
      let S : Statement → Type 0 = Said t.tags t.points few in
      let D : List (Option Statement) → Type 0 = Packed t.tags t.points few in
      then_made Fit Any (order_fields (split 9 bs)) (λ f. and_then (room 128 (length t.orders)) (λ _. room_next t f)) (made_each Any _ (λ _ _. tt))
      (λ f _. then_made Fit (λ _. length t.orders < 128) (room 128 (length t.orders)) (λ _. room_next t f) (room_made 128 (length t.orders))
      (λ _ lt. then_made Fit E (worded (placed 2 (event_of t.tags t.points f.0))) (event_next t f.1 f.2) (worded_made E _ (placed_made E 2 _ (made_each E (event_of t.tags t.points f.0) (event_fit t.tags t.points few f.0))))
      (λ ev e. then_made Fit S (worded (placed 3 (statement_of t.tags t.points f.1))) (effect_next t ev f.2) (worded_made S _ (placed_made S 3 _ (statement_made t.tags t.points few f.1)))
      (λ ef s. then_made Fit D (worded (conditions_of t.tags t.points f.2)) (λ cs. checked (record { event = ev; effect = ef; conditions = cs })) (worded_made D _ (conditions_made t.tags t.points few f.2))
      (λ cs c. checked_made (record { event = ev; effect = ef; conditions = cs }) lt e s c.0 c.1)))))

pub line_lawful : (t : Content) (bs : List ℕ) → lawful t ≡ true → IfOk (line_of t bs) (λ u. lawful u ≡ true)
line_lawful t bs h =
    let P : Content → Type 0 = λ u. lawful u ≡ true in
    let l = law t h in
    by_made P (past (codes "tag" ++ 9 ∷ []) bs) _ _
    (λ q. then_made P (λ n. (length t.tags < 64) × (good_name n ≡ true) × (declared t n ≡ false)) (name_of_field (declared t) (length t.tags) q) (λ n. Ok (with_tag t n)) (name_made (declared t) (length t.tags) q) (λ n m. tag_lawful t l n m.0 m.1 m.2))
    (by_made P (past (codes "point" ++ 9 ∷ []) bs) _ _
    (λ q. then_made P (λ n. (length t.points < 64) × (good_name n ≡ true) × (declared t n ≡ false)) (name_of_field (declared t) (length t.points) q) (λ n. Ok (with_point t n)) (name_made (declared t) (length t.points) q) (λ n m. point_lawful t l n m.0 m.1 m.2))
    (by_made P (past (codes "order" ++ 9 ∷ []) bs) _ _
    (λ q. then_made P (Fit t l.few_tags) (order_of t q) (λ o. Ok (with_order t o)) (order_made t l.few_tags q) (λ o m. order_lawful t l o m.0 m.1))
    tt))
