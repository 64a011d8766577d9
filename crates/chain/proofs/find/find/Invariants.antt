use Rattle.std.proofs.Common.{◌≡◌}
use Rattle.chain.specs.Spots.{spot_among, spot_of}
use Rattle.chain.specs.Walk.{to_come}
use Rattle.chain.proofs.find.find.Given as goal

abbrev pub invariant-loop-row : goal.invariant-loop-row
invariant-loop-row l = spot_among (to_come l.row-iterator) l.d l.spot ≡ spot_of l.rows l.d l.fn.ends.head l.fn.ends.count
