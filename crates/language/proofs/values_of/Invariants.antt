-- `language::values_of` meets its contract. The loop's invariant: the words that came are read, and the iterator that the loop
-- began with gives the words behind the first, numbered from 0. Assumes nothing.
use mathlib.Core.Path.{◌≡◌}
use mathlib.Core.List.{List}
use Prim.Native.Nat.{ℕ}
use lib.ListN.{length}
use Rattle.std.specs.List.{enumerate_from}
use Rattle.std.proofs.lemmas.Iterator.{YieldsList}
use Rattle.language.proofs.Values.{words_behind, read_to}
use Rattle.language.proofs.values_of.Given as goal

abbrev pub invariant-loop-i : goal.invariant-loop-i
invariant-loop-i l =
    (l.v ≡ read_to (words_behind l.s) (length l.yielded))
    × YieldsList {B = ℕ × List ℕ} (goal.iterator-loop-i).next_gives (λ p. (p.0, p.1.now)) l.initial.i-iterator (enumerate_from 0 (words_behind l.s))
