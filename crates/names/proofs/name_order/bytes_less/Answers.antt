use Rattle.std.proofs.Common.{inl, inr}
use Rattle.names.proofs.NameWalks.{ended}
use Rattle.names.proofs.name_order.bytes_less.Goals as goal

pub returns : goal.returns
returns c =
    let inv = c.loop-x.invariant in
    ended _ _ c.loop-x.x-iterator.a.rest.now c.loop-x.x-iterator.b.rest.now inv.2 inv.3 (elim c.in-None.ensures.steps [ inl u ↦ inl u.1.0 | inr u ↦ inr u.1.0 ])
