-- What a search along a chain comes to. Assumes nothing.
use Rattle.std.proofs.Common.{◌≡◌, ℕ, zero, suc, true, cond, List, [], ◌∷◌, map, length, find, Some, None, Option, refl, ap, ◌∙◌, inl, inr}
use Rattle.std.proofs.lemmas.Bool.{cond-true, lt-ltb}
use Rattle.ordered.specs.Ascending.{rising, Above, LeastSuch}
use Rattle.ordered.proofs.Sets.{following_such, leading_such}
use Rattle.duties.specs.Duties.{before}
use Rattle.duties.specs.declared.duty.Duty.{Duty}
use Rattle.duties.specs.DutyLaws.{before_irreflexive, before_transitive, before_total}
use Rattle.chain.specs.Spots.{comes_above, next_above}
use Rattle.chain.specs.Walk.{row_at, walk, trail, duties_at}
use Rattle.chain.specs.declared.link.Link.{Link}
use Rattle.chain.proofs.Leads.{Inside}

-- where all the places are rows, the rows have the duties at them
pub trail_duties : (rows : List Link) (p k : ℕ) → Inside rows (walk rows p k) → map (λ (row : Link). row.duty) (trail rows p k) ≡ duties_at rows (walk rows p k)
trail_duties rows p zero i = refl
trail_duties rows p (suc k) i =
    ap (map (λ (row : Link). row.duty)) (cond-true _ _ _ (lt-ltb p (length rows) (i p (inl refl))))
    ∙ ap (λ (es : List Duty). (row_at rows p).duty ∷ es) (trail_duties rows (row_at rows p).next k (λ q m. i q (inr m)))

-- the first that is above
pub find_above : (from : Option Duty) (es : List Duty) → find (comes_above from) es ≡ next_above from es
find_above None [] = refl
find_above None (e ∷ es) = refl
find_above (Some d) [] = refl
find_above (Some d) (e ∷ es) = ap (cond (before d e) (Some e)) (find_above (Some d) es)

-- it is the least of them in a list that ascends
pub above_least : (from : Option Duty) (es : List Duty) → rising before es ≡ true → LeastSuch before (Above before from) es (next_above from es)
above_least None es = leading_such before before_irreflexive before_transitive before_total es
above_least (Some d) es = following_such before before_irreflexive before_transitive before_total d es
