use Rattle.shelf.proofs.Shelves.{same_shelf}
use Rattle.shelf.proofs.shelf.ShelfRegister.enter.Goals as goal

pub returns-clause-unchanged : goal.returns-clause-unchanged
returns-clause-unchanged c = λ u. same_shelf _ c.args.self.now (c.insert_up_to.ensures.unchanged u)
