-- `line::by_ten` meets its contract: the mask keeps the lanes of the quotient, each of them a tenth. Assumes nothing.
use Rattle.line.proofs.Lanes.{each_part, mask_four, by_ten}
use Rattle.line.proofs.by_ten.Goals as goal

pub returns : goal.returns
returns c = each_part by_ten _ (mask_four _)
