-- `line::by_hundred` meets its contract: the mask keeps the lanes of the quotient, each of them a hundredth. Assumes nothing.
use Rattle.line.proofs.Lanes.{each_part, mask_two, by_hundred}
use Rattle.line.proofs.by_hundred.Goals as goal

pub returns : goal.returns
returns c = each_part by_hundred _ (mask_two _)
