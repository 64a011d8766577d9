use Rattle.chain.proofs.Cuts.{prev_inside, own_inside}
use Rattle.chain.proofs.chain.Chain.find.Goals as goal

pub returns-clause-prev : goal.returns-clause-prev
returns-clause-prev c = prev_inside c.args.self.now.rows.now c.args.self.now.ends c.args.d c.find.result c.args.self.now.linked c.find.ensures

pub returns-clause-own : goal.returns-clause-own
returns-clause-own c = own_inside c.args.self.now.rows.now c.args.self.now.ends c.args.d c.find.result c.args.self.now.linked c.find.ensures
