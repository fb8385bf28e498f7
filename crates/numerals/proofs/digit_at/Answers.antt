-- `numerals::digit_at` meets its contract: by whether a number of 64 bits has a digit at the place. Assumes nothing.
use Rattle.std.proofs.Common.{arith}
use Rattle.std.proofs.Math.Nat.{one-le-pow}
use Rattle.numerals.proofs.Digits.{digit_none}
use Rattle.numerals.proofs.digit_at.Goals as goal

pub nonzero_div-result : goal.nonzero_div-result
nonzero_div-result c = rw c.pow.ensures (one-le-pow c.args.place 10 (omega arith))

pub returns-else-place-lt-PLACES : goal.returns-else-place-lt-PLACES
returns-else-place-lt-PLACES c =
    (digit_none c.args.n c.args.place (omega arith) (omega (arith, c.if-place-lt-PLACES.false)), omega arith)
