-- The conditions of an order are read as the grammar spells them. Assumes nothing.
use Rattle.std.proofs.Common.{◌≡◌, ℕ, ◌+◌, ◌≤◌, ◌⊎◌, List, [], ◌∷◌, ◌++◌, map, length, take, replicate, Some, None, Ok, Err, Option, Result, refl, ap, inl, inr, arith, length-append}
use Rattle.duties.specs.declared.order.Statement.{Statement}
use Rattle.fields.specs.declared.fault.Cause.{Cause}
use Rattle.fields.specs.declared.fault.WordFault.{WordFault}
use Rattle.fields.specs.Fields.{statement_of}
use Rattle.fields.specs.Reading.{and_then, placed}
use Rattle.names.specs.declared.name.Name.{Name}
use Rattle.lines.specs.Lines.{conditions_of}
use Rattle.grammar.specs.Grammar.{SpellsStatement}
use Rattle.grammar.proofs.StatementSpelled.{statements_spelled}
use Rattle.verdicts.specs.Declares.{SpellsEach, no_field, and_field}

module _ (tags points : List Name) where
  -- a field's condition
  abbrev condition : ℕ → List ℕ → Result (Option Statement) WordFault
  condition k c = and_then (placed k (statement_of tags points c)) (λ s. Ok (Some s))

  here : {c : List ℕ} {s : Statement} (k : ℕ) → SpellsStatement tags points c s → condition k c ≡ Ok (Some s)
  here {c} {s} k h = rw ((statements_spelled tags points c s).1 h)

  pub conditions_read : (cs : List (List ℕ)) (ss : List Statement) → length cs ≤ 4 → SpellsEach tags points cs ss → conditions_of tags points cs ≡ Ok (take 4 (map Some ss ++ replicate 4 None))
  conditions_read _ _ few no_field = refl
  conditions_read _ _ few (and_field a no_field) = rw (here 4 a)
  conditions_read _ _ few (and_field a (and_field b no_field)) = rw (here 4 a, here 5 b)
  conditions_read _ _ few (and_field a (and_field b (and_field c no_field))) = rw (here 4 a, here 5 b, here 6 c)
  conditions_read _ _ few (and_field a (and_field b (and_field c (and_field d no_field)))) = rw (here 4 a, here 5 b, here 6 c, here 7 d)
  conditions_read _ _ few (and_field a (and_field b (and_field c (and_field d (and_field e h))))) = absurd (omega arith)

  -- the first field that spells no statement, after those that do
  abbrev pub FirstBad : List (List ℕ) → Type 0
  FirstBad cs = (done : List (List ℕ)) × (ss : List Statement) × (c : List ℕ) × (more : List (List ℕ)) × (k : Cause) × (cs ≡ done ++ c ∷ more) × SpellsEach tags points done ss × (statement_of tags points c ≡ Err k)

  told_first : (c : List ℕ) (cs : List (List ℕ)) (r : Result Statement Cause) → statement_of tags points c ≡ r → ((ss : List Statement) × SpellsEach tags points cs ss) ⊎ FirstBad cs → ((ss : List Statement) × SpellsEach tags points (c ∷ cs) ss) ⊎ FirstBad (c ∷ cs)
  told_first c cs (Ok s) e (inl (ss, h)) = inl (s ∷ ss, and_field ((statements_spelled tags points c s).0 e) h)
  told_first c cs (Ok s) e (inr (done, ss, d, more, k, is, h, bad)) = inr (c ∷ done, s ∷ ss, d, more, k, ap (λ l. c ∷ l) is, and_field ((statements_spelled tags points c s).0 e) h, bad)
  told_first c cs (Err k) e rest = inr ([], [], c, cs, k, refl, no_field, e)

  pub conditions_told : (cs : List (List ℕ)) → ((ss : List Statement) × SpellsEach tags points cs ss) ⊎ FirstBad cs
  conditions_told [] = inl ([], no_field)
  conditions_told (c ∷ cs) = told_first c cs (statement_of tags points c) refl (conditions_told cs)

  pub conditions_bad : {cs : List (List ℕ)} {ss : List Statement} (c : List ℕ) (more : List (List ℕ)) (k : Cause) → length (cs ++ c ∷ more) ≤ 4 → SpellsEach tags points cs ss → statement_of tags points c ≡ Err k → conditions_of tags points (cs ++ c ∷ more) ≡ Err (record { field = length cs + 4; cause = k })
  conditions_bad x more k few no_field bad = rw bad
  conditions_bad x more k few (and_field a no_field) bad = rw (here 4 a, bad)
  conditions_bad x more k few (and_field a (and_field b no_field)) bad = rw (here 4 a, here 5 b, bad)
  conditions_bad x more k few (and_field a (and_field b (and_field c no_field))) bad = rw (here 4 a, here 5 b, here 6 c, bad)
  conditions_bad x more k few (and_field a (and_field b (and_field c (and_field {fs} d h)))) bad = absurd (omega (arith, length-append fs (x ∷ more)))
