-- `sheet::bad_ranges` meets its contract: its tests are the definition's, once that is opened. Assumes nothing.
use Rattle.std.proofs.Common.{rules}
use Rattle.paper.specs.Units.{is_weight}
use Rattle.paper.specs.Refusals.{bad_ranges}
use Rattle.sheet.proofs.bad_ranges.Goals as goal

pub returns : goal.returns
unfolding bad_ranges is_weight
returns c = search rules
