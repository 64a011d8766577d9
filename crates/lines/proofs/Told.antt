-- What tells that a piece is a name, and what is read of it. Assumes nothing.
use Rattle.std.proofs.Common.{◌≡◌, ℕ, true, false, List, refl, ◌∙◌, inl, inr, arith, Bor}
use Rattle.std.proofs.lemmas.Bool.{cases_Bool}
use Rattle.grammar.proofs.Told.{names_told}
use Rattle.text.specs.declared.token.Token.{Token}
use Rattle.text.specs.declared.token.Token.TheVariants as V
use Rattle.text.specs.Spelling.{is_name}
use Rattle.text.specs.Tokens.{name, class_of, token_of}

no_token : (r : Token) (w : List ℕ) → ((x : Bor (List ℕ)) → r ≡ V.Name x → ⊥) → token_of r ≡ name w → ⊥
no_token (V.Name x) w other h = other x refl
no_token (V.Number x) w other h = let z : ◌≡◌ {A = ℕ} 0 1 = cc in omega arith
no_token (V.Key k) w other h = let z : ◌≡◌ {A = ℕ} 0 1 = cc in omega arith
no_token V.Other w other h = let z : ◌≡◌ {A = ℕ} 0 1 = cc in omega arith

-- any other token is of no name
pub told_other : (r : Token) (w : List ℕ) → ((x : Bor (List ℕ)) → r ≡ V.Name x → ⊥) → token_of r ≡ class_of w → is_name w ≡ false
told_other r w other h =
    elim (cases_Bool (is_name w)) [ inl e ↦ absurd (no_token r w other (h ∙ (names_told w).1 e)) | inr e ↦ e ]
