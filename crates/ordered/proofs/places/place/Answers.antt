use Rattle.std.proofs.Common.{◌≡◌, true, false, refl, sym, ◌∙◌, arith, rules, tests}
use Rattle.std.proofs.lemmas.Bool.{cond-true, cond-false}
use Rattle.std.proofs.lemmas.Iterator.{YieldsList-from_slice, IsFirst-from_position, index_from_first}
use Rattle.ordered.specs.Ascending.{placed}
use Rattle.ordered.proofs.Walks.{placed_held}
use Rattle.ordered.proofs.places.place.Goals as goal

pub returns : goal.returns
returns g c =
    let less = g.T.TotalOrder.less in
    let x = c.args.x in
    let xs = c.args.rows.now in
    let first = IsFirst-from_position _ _ c.position.result (λ y. less y x ≡ false) (λ y. less y x ≡ true) c.position.ensures.ran (YieldsList-from_slice xs cc) (λ y q k. search (rules, tests)) (λ y q k. search (rules, tests)) in
    let is : c.unwrap_or.result ≡ placed less x xs =
    c.unwrap_or.ensures ∙ sym (index_from_first (placed less x) (λ y. less y x ≡ false) (λ y. less y x ≡ true) refl (λ y ys e. cond-false _ _ _ e) (λ y ys e. cond-true _ _ _ e ∙ omega arith) xs c.position.result first) in
    record { within = search rules; place = is; there = λ h. omega (arith, placed_held less x xs h) }
