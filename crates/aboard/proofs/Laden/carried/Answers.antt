-- `Laden::carried` meets its contract: the sums as they stand, and what a sum stands for. Assumes nothing.
use Rattle.aboard.proofs.Standing.{beside_more}
use Rattle.aboard.proofs.Laden.carried.Goals as goal

pub returns : goal.returns
returns c =
    let a = c.args in
    (rw (c.add.ensures, c.add-2.ensures, c.add-3.ensures), λ s b r w h k. rw (c.add.ensures, c.add-2.ensures, c.add-3.ensures) (beside_more s b r w a.self a.load h k))
