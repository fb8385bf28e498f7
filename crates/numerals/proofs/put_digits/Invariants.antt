-- `numerals::put_digits` meets its contract. The loop's invariant: the digits from `place` on are written. Assumes nothing.
use Rattle.std.proofs.Common.{◌≡◌, ◌++◌, ◌+◌, ◌≤◌, length}
use Rattle.paper.specs.Placard.{digits}
use Rattle.numerals.proofs.put_digits.Given as goal

abbrev pub invariant-loop-place : goal.invariant-loop-place
invariant-loop-place g l =
    (length l.text.bytes + l.place ≤ g.row.N) × (l.text.bytes ++ digits l.place l.n ≡ l.fn.text.bytes ++ digits l.k l.n)
