-- `Standing::new` meets its contract: nothing stands in the empty list. Assumes nothing.
use mathlib.Core.Path.{refl}
use Rattle.paper.specs.Record.{last_weighing, balance_of, sheet_of}
use Rattle.seat.specs.InForce.{in_force}
use Rattle.judge.specs.Standing.{stands_in}
use Rattle.judge.proofs.Standing.new.Goals as goal

pub returns : goal.returns
unfolding stands_in balance_of last_weighing in_force sheet_of
returns c = refl
