use Rattle.std.proofs.Common.{◌≡◌, ◌+◌, length}
use Rattle.names.specs.Names.{bytes_before}
use Rattle.names.proofs.name_order.bytes_less.Given as goal

abbrev pub invariant-loop-x : goal.invariant-loop-x
invariant-loop-x l =
    (goal.iterator-loop-x).can_next l.x-iterator
    × (goal.iterator-loop-x).is_finite l.x-iterator
    × (bytes_before l.a l.b ≡ bytes_before l.x-iterator.a.rest.now l.x-iterator.b.rest.now)
    × (length l.a + length l.x-iterator.b.rest.now ≡ length l.b + length l.x-iterator.a.rest.now)
