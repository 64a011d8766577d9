-- A literal is read as the grammar spells it, and why it is refused. Assumes nothing.
use Rattle.std.proofs.Common.{◌≡◌, ℕ, true, ◌⊎◌, List, [], ◌∷◌, Some, None, Ok, Err, codes, Option, sym, refl, subst, inl, inr, arith}
use Rattle.duties.specs.declared.duty.Literal.{Literal}
use Rattle.duties.specs.declared.duty.Literal.TheVariants as L
use Rattle.fields.specs.declared.fault.Cause.TheVariants.{Shape}
use Rattle.fields.specs.Fields.{literal_of, literal_shape, one_name, point_of}
use Rattle.fields.specs.Reading.{and_then, by}
use Rattle.std.proofs.lemmas.Bool.{and_parts}
use Rattle.names.proofs.NameBytes.{all_inner_lem}
use Rattle.names.specs.declared.name.Name.{Name}
use Rattle.text.specs.Spelling.{inner, is_name, name_like}
use Rattle.text.specs.Split.{past}
use Rattle.text.specs.Tokens.{class_of}
use Rattle.grammar.specs.Grammar as G
use Rattle.grammar.specs.Grammar.{SpellsLiteral}
use Rattle.grammar.specs.Reads.{LiteralsAreReadAsSpelled}
use Rattle.grammar.specs.Shapes as H
use Rattle.grammar.specs.Shapes.{LiteralShape, UndeclaredAmong}
use Rattle.grammar.proofs.Causes.{Known, OrShaped, known_both}
use Rattle.grammar.proofs.Numbers.{name_known, name_one, name_or, name_visible, numbered_point}
use Rattle.grammar.proofs.Pieces.{Visible, none_past, past_is}

abbrev pub SomeLiteral : List ℕ → Type 0
SomeLiteral bs = (w : List ℕ) × LiteralShape bs w

-- a name does not begin with !
no_mark : (w : List ℕ) → is_name w ≡ true → past (codes "!") w ≡ None
no_mark w h = none_past inner (codes "!") w refl (all_inner_lem w (and_parts (name_like w) _ h).0)

pub literal_shaped : (bs w : List ℕ) → LiteralShape bs w → literal_shape bs ≡ Ok tt
literal_shaped _ _ (H.is_so {w} h) = rw (no_mark w h) (name_one w h)
literal_shaped _ _ (H.is_not {w} h) = name_one w h

-- a literal is one word
pub literal_word : {bs w : List ℕ} → LiteralShape bs w → Visible bs
literal_word (H.is_so {w} h) = name_visible w h
literal_word (H.is_not {w} h) = name_visible w h

module _ (points : List Name) where
  pub literal_known : (bs w : List ℕ) → LiteralShape bs w → Known (SpellsLiteral points bs) (UndeclaredAmong points (w ∷ [])) (literal_of points bs)
  literal_known _ _ (H.is_so {w} h) = rw (no_mark w h) (known_both (λ n. Ok (L.Is n)) (name_known points w h) (λ n k. inr (L.Is n, refl, G.is_so k, (λ u. u))))
  literal_known _ _ (H.is_not {w} h) = known_both (λ n. Ok (L.Not n)) (name_known points w h) (λ n k. inr (L.Not n, refl, G.is_not k, (λ u. u)))

  -- after a mark, or with none
  mark_or : (bs : List ℕ) (o : Option (List ℕ)) → past (codes "!") bs ≡ o → ((by o (λ rest. one_name (class_of rest)) (one_name (class_of bs)) ≡ Err Shape) × (by o (λ rest. and_then (point_of points (class_of rest)) (λ n. Ok (L.Not n))) (and_then (point_of points (class_of bs)) (λ n. Ok (L.Is n))) ≡ Err Shape)) ⊎ SomeLiteral bs
  mark_or bs (Some r) e =
      elim (name_or points r) [
        | inl (a, b) ↦ inl (a, rw b)
        | inr h ↦ inr (r, subst (λ b. LiteralShape b r) (sym (past_is (codes "!") bs r e)) (H.is_not h))
      ]
  mark_or bs None e =
      elim (name_or points bs) [
        | inl (a, b) ↦ inl (a, rw b)
        | inr h ↦ inr (bs, H.is_so h)
      ]

  both_or : (bs : List ℕ) → ((literal_shape bs ≡ Err Shape) × (literal_of points bs ≡ Err Shape)) ⊎ SomeLiteral bs
  both_or bs = mark_or bs (past (codes "!") bs) refl

  pub literal_or : (bs : List ℕ) → OrShaped (literal_of points bs) (SomeLiteral bs)
  literal_or bs = let b = both_or bs in grind arith

  pub literal_shape_or : (bs : List ℕ) → OrShaped (literal_shape bs) (SomeLiteral bs)
  literal_shape_or bs = let b = both_or bs in grind arith

  literal_spelled : (bs : List ℕ) (l : Literal) → literal_of points bs ≡ Ok l → SpellsLiteral points bs l
  literal_spelled bs l e = let h = literal_or bs in grind (arith, literal_known bs)

  pub literal_read : (bs : List ℕ) (l : Literal) → SpellsLiteral points bs l → literal_of points bs ≡ Ok l
  literal_read _ _ (G.is_so {w} {n} h) = rw (no_mark w h.0, numbered_point points w n h)
  literal_read _ _ (G.is_not {w} {n} h) = rw (numbered_point points w n h)

  -- what is spelled has a shape
  pub literal_some : (bs : List ℕ) (l : Literal) → SpellsLiteral points bs l → SomeLiteral bs
  literal_some _ _ (G.is_so {w} h) = (w, H.is_so h.0)
  literal_some _ _ (G.is_not {w} h) = (w, H.is_not h.0)

pub literals_spelled : LiteralsAreReadAsSpelled
literals_spelled points bs l = (literal_spelled points bs l, literal_read points bs l)
