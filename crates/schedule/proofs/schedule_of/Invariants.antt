-- `schedule::schedule_of` meets its contract. The loop's invariant: the lines so far are written. Assumes nothing.
use Rattle.std.proofs.Common.{◌≡◌}
use Rattle.schedule.proofs.Lines.{lines_to}
use Rattle.schedule.proofs.schedule_of.Given as goal

abbrev pub invariant-loop-e : goal.invariant-loop-e
invariant-loop-e l = l.text.bytes ≡ lines_to l.items l.e-index
