-- Names joined by + are read as the grammar spells them, and why they are refused. Assumes nothing.
use Rattle.std.proofs.Common.{◌≡◌, ℕ, ◌<◌, ltb, true, List, [], ◌∷◌, ◌++◌, map, length, Ok, refl, ap, subst, inl, inr, arith}
use Rattle.std.proofs.ByRecursion.{All-append}
use Rattle.std.specs.List.{AllByRecursion}
use Rattle.duties.specs.declared.sets.TagSet.{TagSet}
use Rattle.duties.specs.Sets.{adding}
use Rattle.fields.specs.Fields.{named, point_of, read_set, tags_of}
use Rattle.names.specs.declared.name.Name.{Name}
use Rattle.text.specs.Spelling.{is_name}
use Rattle.text.specs.Split.{split}
use Rattle.text.specs.Tokens.{class_of, parts}
use Rattle.text.proofs.Splits.{split_some}
use Rattle.grammar.specs.Grammar as G
use Rattle.grammar.specs.Grammar.{SpellsSet, tag_set}
use Rattle.grammar.specs.Reads.{SetsAreReadAsSpelled}
use Rattle.grammar.specs.Shapes as H
use Rattle.grammar.specs.Shapes.{SetShape, UndeclaredAmong}
use Rattle.grammar.proofs.Causes.{Known, OrShaped, known_both, or_then, then_ok}
use Rattle.grammar.proofs.Numbers.{name_known, name_lacks, name_one, name_or, name_visible, numbered_point}
use Rattle.grammar.proofs.Pieces.{Visible, after, all_both, joined, joined_split, split_append, split_one}

abbrev Names : List (List ℕ) → Type 0
Names ws = AllByRecursion (λ w. is_name w ≡ true) ws

abbrev pub SomeSet : List ℕ → Type 0
SomeSet bs = (ns : List (List ℕ)) × SetShape bs ns

names_or : (ws : List (List ℕ)) → OrShaped (named (map class_of ws)) (Names ws)
names_or [] = inr tt
names_or (w ∷ ws) = let a = names_or ws in let b = name_or [] w in let c = name_one w in grind arith

after_shape : (v : List ℕ) (ns ws : List (List ℕ)) → SetShape v ns → Names ws → SomeSet (after 43 v ws)
after_shape v ns [] g h = (ns, g)
after_shape v ns (w ∷ ws) g h = after_shape (v ++ 43 ∷ w) (ns ++ w ∷ []) ws (H.and_name g w h.0) h.1

words_shape : (ws : List (List ℕ)) → 0 < length ws → Names ws → SomeSet (joined 43 ws)
words_shape [] some h = absurd (omega arith)
words_shape (w ∷ ws) some h = after_shape w (w ∷ []) ws (H.one_name h.0) h.1

pub set_or : (bs : List ℕ) → OrShaped (named (parts bs)) (SomeSet bs)
set_or bs =
    elim (names_or (split 43 bs)) [
      | inl e ↦ inl e
      | inr h ↦ inr (subst SomeSet (joined_split 43 bs) (words_shape (split 43 bs) (split_some 43 bs) h))
    ]

-- names joined by + are one word
pub set_word : {bs : List ℕ} {ns : List (List ℕ)} → SetShape bs ns → Visible bs
set_word (H.one_name {w} h) = name_visible w h
set_word (H.and_name {ws} g w h) = all_both (ltb 32) ws (43 ∷ w) (set_word g) (name_visible w h)

set_split : (bs : List ℕ) (ns : List (List ℕ)) → SetShape bs ns → split 43 bs ≡ ns
set_split _ _ (H.one_name {w} h) = split_one 43 w (name_lacks 43 w refl h)
set_split _ _ (H.and_name {ws} {ns} g w h) = rw (split_append 43 ws w, split_one 43 w (name_lacks 43 w refl h), set_split ws ns g)

set_names : (bs : List ℕ) (ns : List (List ℕ)) → SetShape bs ns → Names ns
set_names _ _ (H.one_name h) = (h, tt)
set_names _ _ (H.and_name {ws} {ns} g w h) = All-append (λ v. is_name v ≡ true) ns (w ∷ []) (set_names ws ns g) (h, tt)

names_named : (ws : List (List ℕ)) → Names ws → named (map class_of ws) ≡ Ok tt
names_named [] h = refl
names_named (w ∷ ws) h = let a = name_one w h.0 in let b = names_named ws h.1 in grind arith

pub set_named : (bs : List ℕ) (ns : List (List ℕ)) → SetShape bs ns → named (parts bs) ≡ Ok tt
set_named bs ns h = rw (set_split bs ns h) (names_named ns (set_names bs ns h))

module _ (tags : List Name) where
  -- the names after those of v, which have the set m
  after_known : (v : List ℕ) (m : ℕ) (ws : List (List ℕ)) → SpellsSet tags v m → Names ws → Known (λ (s : TagSet). SpellsSet tags (after 43 v ws) s.0) (UndeclaredAmong tags ws) (tags_of tags m (map class_of ws))
  after_known v m [] g h = inr (tag_set m, refl, g, (λ u. u))
  after_known v m (w ∷ ws) g h =
      known_both (λ n. tags_of tags (adding m n) (map class_of ws)) (name_known tags w h.0) (λ n k. after_known (v ++ 43 ∷ w) (adding m n) ws (G.and_tag g w k) h.1)

  words_known : (ws : List (List ℕ)) → 0 < length ws → Names ws → Known (λ (s : TagSet). SpellsSet tags (joined 43 ws) s.0) (UndeclaredAmong tags ws) (tags_of tags 0 (map class_of ws))
  words_known [] some h = absurd (omega arith)
  words_known (w ∷ ws) some h =
      known_both (λ n. tags_of tags (adding 0 n) (map class_of ws)) (name_known tags w h.0) (λ n k. after_known w (adding 0 n) ws (G.one_tag k) h.1)

  -- the names of a set, and the sets that they are read as
  pub set_known : (bs : List ℕ) (ns : List (List ℕ)) → SetShape bs ns → Known (λ (s : TagSet). SpellsSet tags bs s.0) (UndeclaredAmong tags ns) (tags_of tags 0 (parts bs))
  set_known bs ns h =
      let e = set_split bs ns h in
      subst (λ b. Known (λ (s : TagSet). SpellsSet tags b s.0) (UndeclaredAmong tags ns) (tags_of tags 0 (parts bs))) (joined_split 43 bs)
      (rw e (words_known ns (rw e at (split_some 43 bs)) (set_names bs ns h)))

  pub set_read_known : (bs : List ℕ) (ns : List (List ℕ)) → SetShape bs ns → Known (λ (s : TagSet). SpellsSet tags bs s.0) (UndeclaredAmong tags ns) (read_set tags bs)
  set_read_known bs ns h = rw (set_named bs ns h) (set_known bs ns h)

  pub set_read_or : (bs : List ℕ) → OrShaped (read_set tags bs) (SomeSet bs)
  set_read_or bs = or_then (λ _. tags_of tags 0 (parts bs)) (λ s. s) (set_or bs)

  set_spelled : (bs : List ℕ) (s : ℕ) → read_set tags bs ≡ Ok (tag_set s) → SpellsSet tags bs s
  set_spelled bs s e = let h = set_read_or bs in grind (arith, set_read_known bs)

  tags_push : (m : ℕ) (ns : List (List ℕ)) (w : List ℕ) (s n : ℕ) → tags_of tags m (map class_of ns) ≡ Ok (tag_set s) → point_of tags (class_of w) ≡ Ok n → tags_of tags m (map class_of (ns ++ w ∷ [])) ≡ Ok (tag_set (adding s n))
  tags_push m [] w s n h k = let q : tag_set m ≡ tag_set s = cc in rw k (ap (λ (t : TagSet). Ok (tag_set (adding t.0 n))) q)
  tags_push m (v ∷ ns) w s n h k =
      let t = then_ok (point_of tags (class_of v)) (λ i. tags_of tags (adding m i) (map class_of ns)) (tag_set s) h in
      rw t.1 (tags_push (adding m t.0) ns w s n t.2 k)

  set_tags : (bs : List ℕ) (s : ℕ) → SpellsSet tags bs s → (ns : List (List ℕ)) × SetShape bs ns × (tags_of tags 0 (map class_of ns) ≡ Ok (tag_set s))
  set_tags _ _ (G.one_tag {w} {n} h) = (w ∷ [], H.one_name h.0, rw (numbered_point tags w n h))
  set_tags _ _ (G.and_tag {ws} {s} {n} g w h) =
      let (ns, k, e) = set_tags ws s g in (ns ++ w ∷ [], H.and_name k w h.0, tags_push 0 ns w s n e (numbered_point tags w n h))

  -- what is spelled has a shape, and is read
  pub set_shape : (bs : List ℕ) (s : ℕ) → SpellsSet tags bs s → (ns : List (List ℕ)) × SetShape bs ns × (tags_of tags 0 (parts bs) ≡ Ok (tag_set s))
  set_shape bs s h = let (ns, k, e) = set_tags bs s h in (ns, k, rw (set_split bs ns k) e)

  pub set_read : (bs : List ℕ) (s : ℕ) → SpellsSet tags bs s → read_set tags bs ≡ Ok (tag_set s)
  set_read bs s h = let (ns, k, e) = set_shape bs s h in rw (set_named bs ns k) e

pub sets_spelled : SetsAreReadAsSpelled
sets_spelled tags bs s = (set_spelled tags bs s, set_read tags bs s)
