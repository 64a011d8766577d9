-- Rows each of which names the one after it are a chain with no duty. Assumes nothing.
use Rattle.std.proofs.Common.{◌≡◌, ℕ, zero, suc, ◌+◌, ◌-◌, ◌<◌, ◌≤◌, List, ◌∷◌, sym, refl, ap, subst, inl, inr, arith}
use Rattle.ordered.specs.Ascending.{◌∈◌}
use Rattle.chain.specs.Links.{Strung}
use Rattle.chain.specs.Walk.{walk, room_of, Distinct, Linked}
use Rattle.chain.specs.declared.link.Link.{Link}

module _ (rows : List Link) (strung : Strung rows) where
  step : (p k : ℕ) → p + suc k ≤ room_of rows → walk rows p (suc k) ≡ p ∷ walk rows (p + 1) k
  step p k h = ap (λ (q : ℕ). p ∷ walk rows q k) (strung p (omega arith))

  ahead : (p k q : ℕ) → p + k ≤ room_of rows → q ∈ walk rows p k → (p ≤ q) × (q < p + k)
  ahead p zero q h m = absurd m
  ahead p (suc k) q h m =
      elim (subst (λ (l : List ℕ). q ∈ l) (step p k h) m) [
        | inl e ↦ (omega arith, omega arith)
        | inr n ↦ let a = ahead (p + 1) k q (omega arith) n in (omega arith, omega arith)
      ]

  apart : (p k : ℕ) → p + k ≤ room_of rows → Distinct (walk rows p k)
  apart p zero h = tt
  apart p (suc k) h =
      subst Distinct (sym (step p k h))
      ((λ m. let a = ahead (p + 1) k p (omega arith) m in omega arith), apart (p + 1) k (omega arith))

  pub strung_linked : Linked rows (record { head = 0; free = 0; count = 0 })
  strung_linked =
      let all : 0 + (room_of rows - 0) ≤ room_of rows = omega arith in
      record {
        lawful = record { ascending = refl; fits = omega arith; small = omega arith };
        inside = λ p m. let a = ahead 0 (room_of rows - 0) p all m in omega arith;
        once = apart 0 (room_of rows - 0) all;
      }
