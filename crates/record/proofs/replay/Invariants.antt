-- `record::replay` meets its contract. The loop's invariant: the entries so far are replayed. Assumes nothing.
use Rattle.record.specs.Held.{ReplayedAs}
use Rattle.record.proofs.Replays.{held_to}
use Rattle.record.proofs.replay.Given as goal

abbrev pub invariant-loop-e : goal.invariant-loop-e
invariant-loop-e l = ReplayedAs (held_to l.e-items l.e-index) (record { log = l.log; standing = l.standing })
