-- `page::put_rows` meets its contract. The loop's invariant: the rows beside the first j rear loads are put, and their blank
-- ones counted. Assumes nothing.
use mathlib.Core.Path.{◌≡◌}
use Prim.Native.Nat.{◌*◌, ◌≤◌}
use lib.ListN.{length}
use Rattle.laws.specs.Written.{written}
use Rattle.balance.specs.Balance.{plain}
use Rattle.group.specs.Numbered.{lines_to, blanks_to}
use Rattle.page.proofs.put_rows.Given as goal

abbrev pub invariant-loop-j : goal.invariant-loop-j
invariant-loop-j l =
    let f = l.terms.front.arms.force in
    (l.none ≤ l.j * l.waters) × (length l.out ≡ length l.initial.out) × (l.none ≡ blanks_to f.sheet f.seat (plain l.b) (l.j * l.waters)) × (l.out ≡ written l.initial.out 0 (lines_to f.sheet f.seat (plain l.b) (l.j * l.waters)))
