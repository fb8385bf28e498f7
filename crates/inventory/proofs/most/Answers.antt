-- `inventory::most` meets its contract: no accepted list has more arms, and one has as many. Assumes nothing.
use Rattle.std.proofs.Common.{arith}
use Rattle.inventory.proofs.Few.{few_arms}
use Rattle.inventory.proofs.Full.{fullest, fullest-accepted, fullest-arms}
use Rattle.inventory.proofs.most.Goals as goal

pub returns : goal.returns
returns c =
    record { most = λ es a. omega (arith, few_arms es a); reached = (fullest, fullest-accepted, fullest-arms) }
