-- `fittings_of` meets its contract. The loop's invariant: what is known is known of the entries so far. Assumes nothing.
use Rattle.std.proofs.Common.{take}
use Rattle.fittings.specs.Fittings.{Tells}
use Rattle.inventory.proofs.fittings_of.Given as goal

abbrev pub invariant-loop-e : goal.invariant-loop-e
invariant-loop-e l = Tells (take l.e-index l.e-items) l.fittings
