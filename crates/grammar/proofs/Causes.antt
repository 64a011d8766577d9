-- What comes of an answer, put together from what comes of its parts. Assumes nothing.
use Rattle.std.proofs.Common.{◌≡◌, ℕ, ◌<◌, ◌≤◌, ◌⊎◌, ◌↔◌, List, Ok, Err, Result, arith}
use Rattle.fields.specs.declared.fault.Cause.{Cause}
use Rattle.fields.specs.declared.fault.Cause.TheVariants.{Shape, Undeclared, Over}
use Rattle.fields.specs.Reading.{and_then}
use Rattle.names.specs.declared.name.Name.{Name}
use Rattle.grammar.specs.Shapes.{Refuses, UndeclaredAmong}

-- both parts answered
pub then_ok : {X Y E : Type 0} (r : Result X E) (f : X → Result Y E) (y : Y) → and_then r f ≡ Ok y → (x : X) × (r ≡ Ok x) × (f x ≡ Ok y)
then_ok r f y h = grind arith

-- names are undeclared, as Lack says, or what is read is what is spelled
abbrev pub Known : {X : Type 0} → (X → Type 0) → Type 0 → Result X Cause → Type 0
Known {X} Spells Lack r = ((r ≡ Err Undeclared) × Lack) ⊎ ((x : X) × (r ≡ Ok x) × Spells x × (Lack → ⊥))

-- the number first, then the names
abbrev pub Decided : {X : Type 0} → (X → Type 0) → ℕ → ℕ → Type 0 → Result X Cause → Type 0
Decided Spells n limit Lack r = ((r ≡ Err Over) × (limit < n)) ⊎ ((n ≤ limit) × Known Spells Lack r)

-- a fault of shape, or there is a shape
abbrev pub OrShaped : {X : Type 0} → Result X Cause → Type 0 → Type 0
OrShaped r P = (r ≡ Err Shape) ⊎ P

abbrev pub SomeShape : (ℕ → ℕ → List (List ℕ) → List (List ℕ) → Type 0) → Type 0
SomeShape Shaped = (n limit : ℕ) × (ts ps : List (List ℕ)) × Shaped n limit ts ps

module _ {X Y : Type 0} {S : X → Type 0} {T : Y → Type 0} {L : Type 0} {r : Result X Cause} where
  -- some names, then others
  pub known_both : {M : Type 0} (f : X → Result Y Cause) → Known S L r → ((x : X) → S x → Known T M (f x)) → Known T (L ⊎ M) (and_then r f)
  known_both f h k = grind arith

  -- what is read is made into more
  pub known_then : (make : X → Y) → ((x : X) → S x → T (make x)) → Known S L r → Known T L (and_then r (λ x. Ok (make x)))
  known_then make each h = grind arith

  pub decided_then : {n limit : ℕ} (make : X → Y) → ((x : X) → S x → T (make x)) → Decided S n limit L r → Decided T n limit L (and_then r (λ x. Ok (make x)))
  decided_then make each h = grind arith

-- a number, then names
pub decided_both : {U V Y : Type 0} {S : U → Type 0} {R : V → Type 0} {T : Y → Type 0} {L : Type 0} {n limit : ℕ} {r : Result U Cause} {q : Result V Cause} (g : U → V → Y) → ((u : U) (v : V) → S u → R v → T (g u v)) → Decided S n limit ⊥ r → Known R L q → Decided T n limit L (and_then r (λ u. and_then q (λ v. Ok (g u v))))
decided_both g each h k = grind arith

-- only names of one kind are wanted
module _ {X : Type 0} {S : X → Type 0} {Lack : Type 0} {r : Result X Cause} where
  pub known_left : Known S Lack r → Known S (Lack ⊎ ⊥) r
  known_left h = grind arith

  pub known_right : Known S Lack r → Known S (⊥ ⊎ Lack) r
  known_right h = grind arith

-- a shape of more
pub or_then : {X Y P Q : Type 0} {r : Result X Cause} (f : X → Result Y Cause) → (P → Q) → OrShaped r P → OrShaped (and_then r f) Q
or_then f to h = grind arith

-- a name of a tag or of a point is not declared
abbrev pub Lacking : List Name → List Name → List (List ℕ) → List (List ℕ) → Type 0
Lacking tags points ts ps = UndeclaredAmong tags ts ⊎ UndeclaredAmong points ps

module _ {X : Type 0} (tags points : List Name) (Shaped : ℕ → ℕ → List (List ℕ) → List (List ℕ) → Type 0) (Spells : X → Type 0) (r : Result X Cause)
    (some : OrShaped r (SomeShape Shaped))
    (each : (n limit : ℕ) (ts ps : List (List ℕ)) → Shaped n limit ts ps → Decided Spells n limit (Lacking tags points ts ps) r) where
  pub by_shape : (x : X) → r ≡ Ok x → Spells x
  by_shape x e = grind arith

  -- one answer has one cause
  pub by_first_cause : (k : Cause) → (r ≡ Err k) ↔ Refuses tags points Shaped k
  by_first_cause Shape = ((λ e n limit ts ps s. grind arith), (λ h. grind arith))
  by_first_cause Over = ((λ e. grind arith), (λ h. grind arith))
  by_first_cause Undeclared = ((λ e. grind arith), (λ h. grind arith))
