-- What follows a front. Assumes nothing.
use Rattle.std.proofs.Common.{◌≡◌, ℕ, ◌+◌, Bool, true, false, cond, eqb, ◌&&◌, List, [], ◌∷◌, length, take, drop, Option, Some, None, Bor, MatchOption, sym, refl, ap, ◌∙◌}
use Rattle.std.specs.Option.{option_map}
use Rattle.std.specs.Str.{bytes_eq}
use Rattle.std.proofs.lemmas.Bool.{cond-true, cond-false}
use Rattle.text.specs.Split.{past}

head : (h t : Bool) (o : Option (List ℕ)) → cond (h && t) o None ≡ cond h (cond t o None) None
head true t o = refl
head false t o = refl

-- by what the first bytes are equal to
past_is : (ps s : List ℕ) → past ps s ≡ cond (bytes_eq (take (length ps) s) ps) (Some (drop (length ps) s)) None
past_is [] s = refl
past_is (p ∷ ps) [] = refl
past_is (p ∷ ps) (b ∷ bs) = rw (past_is ps bs) (sym (head (eqb b p) _ _))

-- what `strip_prefix` leaves
pub past_stripped : (ps s : List ℕ) (r : Option (Bor (List ℕ))) → MatchOption r (bytes_eq (take (length ps) s) ps ≡ false) (λ x. (bytes_eq (take (length ps) s) ps ≡ true) × (x.now ≡ drop (length ps) s) × (length x.now + length ps ≡ length s)) → option_map (λ x. x.now) r ≡ past ps s
past_stripped ps s None h = sym (past_is ps s ∙ cond-false _ _ _ h)
past_stripped ps s (Some x) h = sym (past_is ps s ∙ cond-true _ _ _ h.0 ∙ ap Some (sym h.1))
