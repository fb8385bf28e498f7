-- `listing::put_halves` meets its contract: the whole grams, and behind them the half, where there is one. Assumes nothing.
use mathlib.Core.Path.{ap}
use mathlib.Core.List.{[], ◌∷◌, append_assoc}
use Prim.Native.Nat.{ℕ, ◌/◌}
use native.Mathlib.Omega.{arith}
use lib.ListN.{length, length-append}
use Rattle.paper.specs.Placard.{point}
use Rattle.numerals.specs.Numerals.{decimal, numeral}
use Rattle.listing.proofs.Halves.{halves_odd, halves_even, size_first}
use Rattle.listing.proofs.put_halves.Goals as goal

pub put_number-requires : goal.put_number-requires
unfolding numeral
put_number-requires c = omega (arith, size_first c.args.n)

pub push_str-requires : goal.push_str-requires
unfolding numeral
push_str-requires c =
    omega (arith, ap length (halves_odd c.args.n c.if-n-eq1.true), ap length c.put_number.ensures, length-append {A = ℕ})

pub returns-then-n-eq1 : goal.returns-then-n-eq1
unfolding numeral
returns-then-n-eq1 c =
    let n = c.args.n in
    rw (c.push_str.ensures.bytes, c.put_number.ensures, halves_odd n c.if-n-eq1.true)
    (append_assoc c.args.text.now.bytes (decimal (n / 2)) (point ∷ 53 ∷ []))

pub returns-else-n-eq1 : goal.returns-else-n-eq1
unfolding numeral
returns-else-n-eq1 c = rw (halves_even c.args.n c.if-n-eq1.false) c.put_number.ensures
