-- `lines::read_full`: what is read stands in the buffer.
use Rattle.std.proofs.Common.{◌≤◌, length}
use Rattle.lines.proofs.read_full.Given as goal

abbrev pub invariant-loop : goal.invariant-loop
invariant-loop g l = l.at ≤ length l.out
