-- The number of a name, by the names that are declared. Assumes nothing.
use Rattle.std.proofs.Common.{◌≡◌, ℕ, ltb, true, false, ◌⊎◌, List, Some, None, Ok, Err, Option, sym, refl, ap, ◌∙◌, inl, inr, arith}
use Rattle.std.proofs.lemmas.Bool.{both_ways, and_parts}
use Rattle.std.proofs.lemmas.Bool.Decides.{nat_tests}
use Rattle.fields.specs.declared.fault.Cause.TheVariants.{Shape}
use Rattle.fields.specs.Fields.{declared_at, one_name, place_of, point_of}
use Rattle.names.specs.declared.name.Name.{Name}
use Rattle.names.specs.Names.{name_before, name_of}
use Rattle.names.proofs.NameBytes.{all_inner_lem}
use Rattle.names.specs.NameLaws.{name_irreflexive, name_transitive, name_total}
use Rattle.ordered.specs.Ascending.{same}
use Rattle.ordered.specs.Finding.{LastWith}
use Rattle.ordered.proofs.Last.{last_with}
use Rattle.ordered.proofs.Sets.{same_is, same_refl}
use Rattle.text.specs.Spelling.{inner, is_name, name_like}
use Rattle.text.specs.Tokens.{Class, name, class_of, key_of}
use Rattle.grammar.specs.Grammar.{Numbered}
use Rattle.grammar.proofs.Causes.{Known}
use Rattle.grammar.proofs.Pieces.{Lacks, Visible, all_weaker, lacks_all}
use Rattle.grammar.proofs.Told.{is_named, names_told}

-- there is one last row with a key
module _ {X K : Type 0} (key : X → K) (rows : List X) (k : K) (x : X) where
  last_unique : (m n : Option ℕ) → LastWith key rows k m → LastWith key rows k n → m ≡ n
  last_unique (Some i) (Some j) g h = let a = g.2 j x in let b = h.2 i x in let c = g.1 x in let d = h.1 x in grind arith
  last_unique (Some i) None g h = absurd (h i x g.0 (g.1 x))
  last_unique None (Some j) g h = absurd (g j x h.0 (h.1 x))
  last_unique None None g h = refl

pub name_one : (w : List ℕ) → is_name w ≡ true → one_name (class_of w) ≡ Ok tt
name_one w h = rw ((names_told w).1 h)

module _ (ns : List Name) (w : List ℕ) where
  place_last : LastWith (λ m. m) ns (name_of w) (place_of ns w)
  place_last =
      last_with (λ m. same name_before m (name_of w)) (λ m. m) (name_of w)
      (λ m h. same_is name_before name_irreflexive name_transitive name_total m (name_of w) h)
      (λ m h e. both_ways _ h (ap (λ v. same name_before v (name_of w)) e ∙ same_refl name_before name_irreflexive name_transitive name_total (name_of w))) ns

  place_known : is_name w ≡ true → (o : Option ℕ) → LastWith (λ m. m) ns (name_of w) o → Known (Numbered ns w) (LastWith (λ m. m) ns (name_of w) None) (declared_at o)
  place_known is (Some n) h = inr (n, refl, (is, h), (λ g. g n (name_of w) h.0 (h.1 (name_of w))))
  place_known is None h = inl (refl, h)

  -- a name is declared, and read as its number, or it is not
  pub name_known : is_name w ≡ true → Known (Numbered ns w) (LastWith (λ m. m) ns (name_of w) None) (point_of ns (class_of w))
  name_known is = rw ((names_told w).1 is) (place_known is (place_of ns w) place_last)

  pub numbered_point : (n : ℕ) → Numbered ns w n → point_of ns (class_of w) ≡ Ok n
  numbered_point n h =
      rw ((names_told w).1 h.0) (ap declared_at (last_unique (λ m. m) ns (name_of w) (name_of w) (place_of ns w) (Some n) place_last h.1))

  -- a piece that is no name is a fault of shape
  class_or : (c : Class) → class_of w ≡ c → ((one_name c ≡ Err Shape) × (point_of ns c ≡ Err Shape)) ⊎ (is_name w ≡ true)
  class_or (name s) e = inr ((names_told w).0 (e ∙ ap name (sym (is_named (key_of w) w s e).0)))
  class_or c e = inl (refl, refl)

  pub name_or : ((one_name (class_of w) ≡ Err Shape) × (point_of ns (class_of w) ≡ Err Shape)) ⊎ (is_name w ≡ true)
  name_or = class_or (class_of w) refl

-- a name has small letters, digits and underscores alone
pub name_lacks : (s : ℕ) (w : List ℕ) → inner s ≡ false → is_name w ≡ true → Lacks s w
name_lacks s w out h = lacks_all inner s w out (all_inner_lem w (and_parts (name_like w) _ h).0)

pub name_visible : (w : List ℕ) → is_name w ≡ true → Visible w
name_visible w h = all_weaker inner (ltb 32) (λ b k. grind (arith, nat_tests)) w (all_inner_lem w (and_parts (name_like w) _ h).0)
