-- `schedule::put_decimals` meets its contract: the whole part, a point and the digits. Assumes nothing.
use Rattle.std.proofs.Common.{◌≡◌, ap, append_assoc, ◌++◌, ℕ, ◌/◌, ◌^◌, length, length-append, arith}
use Rattle.std.proofs.Math.Nat.{one-le-pow}
use lib.Utf8.{encode}
use Rattle.numerals.specs.Numerals.{decimal, numeral}
use Rattle.schedule.specs.Schedules.{decimals}
use Rattle.schedule.proofs.Fixed.{length-decimals}
use Rattle.schedule.proofs.put_decimals.Goals as goal

pub nonzero_div-n : goal.nonzero_div-n
nonzero_div-n c = rw c.pow.ensures (one-le-pow c.args.k 10 (omega arith))

pub put_number-requires : goal.put_number-requires
unfolding numeral
put_number-requires c = rw c.pow.ensures (omega (arith, length-decimals c.args.k c.args.n))

pub push-requires : goal.push-requires
unfolding numeral encode
push-requires c =
    let whole : c.put_number.new.text.bytes ≡ c.args.text.now.bytes ++ decimal (c.args.n / 10 ^ c.args.k) = rw c.pow.ensures at c.put_number.ensures in
    omega (arith, length-decimals c.args.k c.args.n, ap length whole, length-append {A = ℕ})

pub put_digits-requires : goal.put_digits-requires
unfolding numeral
put_digits-requires c =
    let whole : c.put_number.new.text.bytes ≡ c.args.text.now.bytes ++ decimal (c.args.n / 10 ^ c.args.k) = rw c.pow.ensures at c.put_number.ensures in
    omega (arith, length-decimals c.args.k c.args.n, ap length whole, ap length (c.push.ensures.ascii (omega arith)), length-append {A = ℕ})

pub returns : goal.returns
unfolding numeral decimals
returns c =
    rw (c.put_digits.ensures, c.push.ensures.ascii (omega arith), c.put_number.ensures, c.pow.ensures) (simp append_assoc)
