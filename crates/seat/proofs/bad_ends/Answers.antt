-- `seat::bad_ends` meets its contract: its tests are the definition's, once that is opened. Assumes nothing.
use Rattle.std.proofs.Common.{rules}
use Rattle.paper.specs.Refusals.{bad_ends}
use Rattle.seat.proofs.bad_ends.Goals as goal

pub returns : goal.returns
unfolding bad_ends
returns c = search rules
