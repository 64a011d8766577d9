use Rattle.std.proofs.Common.{◌≡◌, ◌<◌, ◌≤◌, not, length, get_or, sym, ap, ◌∙◌, arith}
use Rattle.std.proofs.lemmas.Bool.{le-ltb}
use Rattle.std.proofs.lemmas.Bool.Decides.{Decides-at}
use Rattle.ordered.specs.Ascending.{placed}
use Rattle.ordered.proofs.Sets.{holding_member, holding_decides}
use Rattle.ordered.proofs.Walks.{holding_here, holding_past}
use Rattle.ordered.proofs.places.holds.Goals as goal

pub returns-then-at-rows : goal.returns-then-at-rows
returns-then-at-rows g c =
    let o = g.met.T.TotalOrder in
    let less = g.T.TotalOrder.less in
    let xs = c.args.rows.now in
    let x = c.args.x in
    let y = c.index-rows-at.result in
    let h : placed less x xs < length xs = omega arith in
    let read : y ≡ get_or xs (placed less x xs) y = c.index-rows-at.is ∙ ap (λ k. get_or xs k y) c.place-at.ensures.place in
    let is = ap not (c.is_less.ensures ∙ ap (less x) read) ∙ sym (holding_here less x xs y h) in
    record {
      answer = is;
      set = λ k. is ∙ holding_member less o.irreflexive o.transitive o.total x xs k;
      decides = λ k. Decides-at _ _ is (holding_decides less o.irreflexive o.transitive o.total x xs k);
    }

pub returns-else-at-rows : goal.returns-else-at-rows
returns-else-at-rows g c =
    let o = g.met.T.TotalOrder in
    let less = g.T.TotalOrder.less in
    let xs = c.args.rows.now in
    let x = c.args.x in
    let h : length xs ≤ placed less x xs = omega arith in
    let is = le-ltb _ _ c.if-at-rows.false ∙ sym (holding_past less x xs h) in
    record {
      answer = is;
      set = λ k. is ∙ holding_member less o.irreflexive o.transitive o.total x xs k;
      decides = λ k. Decides-at _ _ is (holding_decides less o.irreflexive o.transitive o.total x xs k);
    }
