-- `sheet::rows` meets its contract: the loads of both stations multiplied. Assumes nothing.
use Rattle.std.proofs.Common.{rules}
use Rattle.paper.specs.Rows.{row_count}
use Rattle.sheet.proofs.rows.Goals as goal

pub returns : goal.returns
unfolding row_count
returns c = search rules
