-- `numerals::size_of` meets its contract. The loop's invariant: n is the number of the digits that are read. Assumes nothing.
use Rattle.numerals.proofs.Sizes.{Read}
use Rattle.numerals.proofs.size_of.Given as goal

abbrev pub invariant-loop-x : goal.invariant-loop-x
invariant-loop-x l = Read l.x-items l.n l.x-index
