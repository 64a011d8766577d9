use Rattle.shelf.proofs.Shelves.{same_shelf}
use Rattle.shelf.proofs.shelf.ShelfRegister.strike.Goals as goal

pub returns-clause-unchanged : goal.returns-clause-unchanged
returns-clause-unchanged c = λ u. same_shelf _ c.args.self.now (c.remove.ensures.unchanged u)
