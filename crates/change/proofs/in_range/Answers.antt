-- `change::in_range` meets its contract: its tests are the definition's, once that is opened. Assumes nothing.
use Rattle.std.proofs.Common.{rules}
use Rattle.paper.specs.Refusals.{is_change}
use Rattle.change.proofs.in_range.Goals as goal

pub returns-then-x-ne0 : goal.returns-then-x-ne0
unfolding is_change
returns-then-x-ne0 c = search rules

pub returns-else-x-ne0 : goal.returns-else-x-ne0
unfolding is_change
returns-else-x-ne0 c = search rules
