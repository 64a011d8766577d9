use Rattle.pair.proofs.Pairs.{held_by_parts}
use Rattle.pair.proofs.pair.PairRegister.held.Goals as goal

pub returns : goal.returns
returns g c = held_by_parts c.args.self.now.parted c.args.d c.part_holds.result c.part_holds.ensures.first c.part_holds.ensures.second
