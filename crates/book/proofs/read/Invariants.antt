-- `book::read` meets its contract. The loop's invariant: the lines that came are read (`ReadTo`), and the iterator that the
-- loop began with gives the lines of the text, numbered from 0. A line's turn goes by what it says (`Places`). Assumes nothing.
use mathlib.Core.List.{List}
use Prim.Native.Nat.{ℕ}
use lib.ListN.{length}
use Rattle.std.proofs.lemmas.Iterator.{YieldsList}
use Rattle.book.proofs.Turns.{parts}
use Rattle.book.proofs.Places.{ReadTo}
use Rattle.book.proofs.read.Given as goal

abbrev pub invariant-loop-i : goal.invariant-loop-i
invariant-loop-i l =
    ReadTo l.s l.log l.standing (length l.yielded)
    × YieldsList {B = ℕ × List ℕ} (goal.iterator-loop-i).next_gives (λ p. (p.0, p.1.now)) l.initial.i-iterator (parts l.s)
