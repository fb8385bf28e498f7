-- `file::put_entries` meets its contract. The loop's invariant: the entries so far are written, and `at` is behind them.
-- Assumes nothing.
use mathlib.Core.Path.{◌≡◌}
use Prim.Native.Nat.{◌+◌}
use lib.ListN.{length}
use Rattle.laws.specs.Written.{written}
use Rattle.file.proofs.Slots.{bytes_to}
use Rattle.file.proofs.put_entries.Given as goal

abbrev pub invariant-loop-e : goal.invariant-loop-e
invariant-loop-e l =
    (l.at ≡ 6 + length (bytes_to l.list l.e-index)) × (l.out ≡ written l.initial.out 6 (bytes_to l.list l.e-index))
