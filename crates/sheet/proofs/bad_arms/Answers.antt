-- `sheet::bad_arms` meets its contract: the calls' tests are the definition's, once that is opened. Assumes nothing.
use Rattle.std.proofs.Common.{rules}
use Rattle.paper.specs.Refusals.{bad_arms}
use Rattle.sheet.proofs.bad_arms.Goals as goal

pub returns : goal.returns
unfolding bad_arms
returns c = search rules
