-- `Record::fresh` meets its contract: each of the slots is unused. Assumes nothing.
use mathlib.Core.Path.{refl}
use Rattle.record.specs.Held.{record_of}
use Rattle.record.proofs.Record.fresh.Goals as goal

pub returns : goal.returns
unfolding record_of
returns c = refl
