-- What including, excluding and holding are at the place of x. Assumes nothing of the order.
use Rattle.std.proofs.Common.{◌≡◌, suc, ◌+◌, ◌<◌, ◌≤◌, Bool, true, false, cond, not, List, [], ◌∷◌, ◌++◌, length, get_or, take, drop, refl, ap, ◌∙◌, arith}
use Rattle.std.proofs.lemmas.Bool.{not-false, not-true, both_ways}
use Rattle.ordered.specs.Ascending.{placed, including, excluding, holding}

module _ {X : Type 0} (less : X → X → Bool) (x : X) where
  pub holding_past : (xs : List X) → length xs ≤ placed less x xs → holding less x xs ≡ false
  holding_past [] h = refl
  holding_past (y ∷ ys) h =
      elim (less y x) as (λ b. suc (length ys) ≤ cond b (suc (placed less x ys)) 0 → cond b (holding less x ys) (not (less x y)) ≡ false)
      [ true ↦ λ k. holding_past ys (omega arith) | false ↦ λ k. absurd (omega arith) ]
      h

  pub holding_here : (xs : List X) (d : X) → placed less x xs < length xs → holding less x xs ≡ not (less x (get_or xs (placed less x xs) d))
  holding_here [] d h = absurd (omega arith)
  holding_here (y ∷ ys) d h =
      elim (less y x) as (λ b. cond b (suc (placed less x ys)) 0 < suc (length ys) → cond b (holding less x ys) (not (less x y)) ≡ not (less x (get_or (y ∷ ys) (cond b (suc (placed less x ys)) 0) d)))
      [ true ↦ λ k. holding_here ys d (omega arith) | false ↦ λ k. refl ]
      h

  pub placed_held : (xs : List X) → holding less x xs ≡ true → placed less x xs < length xs
  placed_held [] h = absurd (both_ways false refl h)
  placed_held (y ∷ ys) h =
      elim (less y x) as (λ b. cond b (holding less x ys) (not (less x y)) ≡ true → cond b (suc (placed less x ys)) 0 < suc (length ys))
      [ true ↦ λ k. omega (arith, placed_held ys k) | false ↦ λ k. omega arith ]
      h

  pub including_new : (xs : List X) → holding less x xs ≡ false → including less x xs ≡ take (placed less x xs) xs ++ x ∷ drop (placed less x xs) xs
  including_new [] h = refl
  including_new (y ∷ ys) h =
      elim (less y x) as (λ b. cond b (holding less x ys) (not (less x y)) ≡ false → cond b (y ∷ including less x ys) (cond (less x y) (x ∷ (y ∷ ys)) (y ∷ ys)) ≡ take (cond b (suc (placed less x ys)) 0) (y ∷ ys) ++ x ∷ drop (cond b (suc (placed less x ys)) 0) (y ∷ ys)) [
        | true ↦ λ k. ap (λ q. y ∷ q) (including_new ys k)
        | false ↦ λ k. ap (λ q. cond q (x ∷ (y ∷ ys)) (y ∷ ys)) (not-false (less x y) k)
      ]
      h

  pub including_old : (xs : List X) → holding less x xs ≡ true → including less x xs ≡ xs
  including_old [] h = absurd (both_ways false refl h)
  including_old (y ∷ ys) h =
      elim (less y x) as (λ b. cond b (holding less x ys) (not (less x y)) ≡ true → cond b (y ∷ including less x ys) (cond (less x y) (x ∷ (y ∷ ys)) (y ∷ ys)) ≡ y ∷ ys) [
        | true ↦ λ k. ap (λ q. y ∷ q) (including_old ys k)
        | false ↦ λ k. ap (λ q. cond q (x ∷ (y ∷ ys)) (y ∷ ys)) (not-true (less x y) k)
      ]
      h

  pub excluding_old : (xs : List X) → holding less x xs ≡ true → excluding less x xs ≡ take (placed less x xs) xs ++ drop (placed less x xs + 1) xs
  excluding_old [] h = refl
  excluding_old (y ∷ ys) h =
      elim (less y x) as (λ b. cond b (holding less x ys) (not (less x y)) ≡ true → cond b (y ∷ excluding less x ys) (cond (less x y) (y ∷ ys) ys) ≡ take (cond b (suc (placed less x ys)) 0) (y ∷ ys) ++ drop (cond b (suc (placed less x ys)) 0 + 1) (y ∷ ys)) [
        | true ↦ λ k. let n : suc (placed less x ys + 1) ≡ suc (placed less x ys) + 1 = omega arith in ap (λ q. y ∷ q) (excluding_old ys k) ∙ ap (λ m. y ∷ take (placed less x ys) ys ++ drop m (y ∷ ys)) n
        | false ↦ λ k. ap (λ q. cond q (y ∷ ys) ys) (not-true (less x y) k)
      ]
      h

  pub excluding_none : (xs : List X) → holding less x xs ≡ false → excluding less x xs ≡ xs
  excluding_none [] h = refl
  excluding_none (y ∷ ys) h =
      elim (less y x) as (λ b. cond b (holding less x ys) (not (less x y)) ≡ false → cond b (y ∷ excluding less x ys) (cond (less x y) (y ∷ ys) ys) ≡ y ∷ ys) [
        | true ↦ λ k. ap (λ q. y ∷ q) (excluding_none ys k)
        | false ↦ λ k. ap (λ q. cond q (y ∷ ys) ys) (not-false (less x y) k)
      ]
      h
