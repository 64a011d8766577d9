-- Words that are more than one. Assumes nothing.
use Rattle.std.proofs.Common.{◌≡◌, ℕ, ◌<◌, List, [], ◌∷◌, length, Ok, refl, arith}
use Rattle.text.specs.Split.{split}
use Rattle.text.proofs.Splits.{split_some}
use Rattle.duties.specs.declared.order.Statement.TheVariants as S
use Rattle.names.specs.declared.name.Name.{Name}
use Rattle.fields.specs.Fields.{by_words, duty_of}
use Rattle.fields.specs.Reading.{and_then}

module _ (tags points : List Name) (bs : List ℕ) where
  two_or_more : (a : List ℕ) (ws : List (List ℕ)) → 0 < length ws → by_words tags points bs (a ∷ ws) ≡ and_then (duty_of tags points bs) (λ p. Ok (S.Duty p))
  two_or_more a [] some = absurd (omega arith)
  two_or_more a (w ∷ ws) some = refl

  -- more words than one are a duty
  pub many_words : (q a : List ℕ) → by_words tags points bs (a ∷ split 32 q) ≡ and_then (duty_of tags points bs) (λ p. Ok (S.Duty p))
  many_words q a = two_or_more a (split 32 q) (split_some 32 q)
