-- `paper::arm::holds` meets its contract: its tests are the definition's, once that is opened.
use Rattle.std.proofs.Common.{rules}
use Rattle.paper.specs.Units.{is_arm}
use Rattle.paper.proofs.arm.holds.Goals as goal

pub returns-then-hundredths-ge-LEAST : goal.returns-then-hundredths-ge-LEAST
unfolding is_arm
returns-then-hundredths-ge-LEAST c = search rules

pub returns-else-hundredths-ge-LEAST : goal.returns-else-hundredths-ge-LEAST
unfolding is_arm
returns-else-hundredths-ge-LEAST c = search rules
