-- The bytes so far are at the front.
use Rattle.std.proofs.Common.{◌≡◌, take}
use Rattle.laws.specs.Written.{written}
use Rattle.laws.proofs.copy.Given as goal

abbrev pub invariant-loop-i : goal.invariant-loop-i
invariant-loop-i l = l.out ≡ written l.fn.out 0 (take l.i l.s)
