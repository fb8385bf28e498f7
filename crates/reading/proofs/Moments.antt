-- The moment of a reading by method: the sum or the difference of a multiple of a and one of b, as the paper's is, and their
-- bounds. Assumes nothing.
use mathlib.Core.Path.{◌≡◌}
use mathlib.Core.Bool.{false}
use Prim.Native.Nat.{ℕ, ◌+◌, ◌-◌, ◌≤◌}
use native.Mathlib.Omega.{arith}
use lib.IntN.{pos, ◌-ℤ◌}
use Rattle.laws.specs.declared.Sides.{Sides}
use Rattle.laws.specs.Z.{is_nat, is_sub, same}
use Rattle.laws.specs.Sides.{value_of, sides_of, sum_of, difference_of, times_of, Fits, Below, is_value, value_sides, value_sum, value_difference, value_times, fits_below, below_more, below_sides, below_sum, below_difference, below_times}
use Rattle.paper.specs.declared.Weighing.{Weighing}
use Rattle.paper.specs.Record.{total_of, moment_of}
use Rattle.paper.specs.Refusals.{bad_reading, bad_distance}
use Rattle.reading.specs.Readings.{two_products}
use Rattle.reading.proofs.Conditions.{p_most, q_most, a_range, b_most}

-- q taken from p
less : (p q : ℕ) → q ≤ p → pos (p - q) ≡ pos p -ℤ pos q
less p q h = same (is_nat (p - q)) (is_sub (is_nat p) (is_nat q)) (omega arith)

module _ (w : Weighing) (fine : bad_reading w ≡ false) (near : bad_distance w ≡ false) where
  -- the two distances
  abbrev pub a : Sides
  a = sides_of w.a

  abbrev pub b : Sides
  b = record { up = w.b; down = 0 }

  b_is : value_of b ≡ pos w.b
  b_is = same (is_value b) (is_nat w.b) (omega arith)

  -- multiples by a weight, and by the sum of two
  abbrev most : ℕ
  most = 8000000000000

  below_a : (n : ℕ) → n ≤ 4000000 → Below most (times_of n a)
  below_a n h =
      let r = a_range w near in
      below_times n a h (below_sides 2000000 w.a r.0 r.1 (omega arith) (omega arith))

  below_b : (n : ℕ) → n ≤ 4000000 → Below most (times_of n b)
  below_b n h = below_times {n = 2000000} n b h (record { up = b_most w near; down = omega arith })

  pub a_fits : (n : ℕ) → n ≤ 4000000 → Fits (times_of n a)
  a_fits n h = fits_below most (times_of n a) (omega arith) (below_a n h)

  pub b_fits : (n : ℕ) → n ≤ 4000000 → Fits (times_of n b)
  b_fits n h = fits_below most (times_of n b) (omega arith) (below_b n h)

  abbrev pub IsMoment : Sides → Type 0
  IsMoment x = (value_of x ≡ moment_of w) × Below two_products x

  wide : (x : Sides) → Below (most + most) x → Below two_products x
  wide x h = below_more x (omega arith) h

  pub moment_1 : w.m ≡ 1 → IsMoment (sum_of (times_of w.p a) (times_of w.q b))
  unfolding moment_of
  moment_1 m =
      let p = p_most w fine in
      let q = q_most w fine in (
        rw m (value_sum (times_of w.p a) (times_of w.q b) (value_times w.p a (value_sides w.a)) (value_times w.q b b_is)),
        wide _ (below_sum (times_of w.p a) (times_of w.q b) (below_a w.p (omega arith)) (below_b w.q (omega arith))),
      )

  pub moment_2 : w.q ≤ w.p → w.m ≡ 2 → IsMoment (difference_of (times_of (w.p - w.q) b) (times_of w.p a))
  unfolding moment_of
  moment_2 h m =
      let p = p_most w fine in (
        rw (m, ← less w.p w.q h)
            (value_difference (times_of (w.p - w.q) b) (times_of w.p a) (value_times (w.p - w.q) b b_is) (value_times w.p a (value_sides w.a))),
        wide _ (below_difference (times_of (w.p - w.q) b) (times_of w.p a) (below_b (w.p - w.q) (omega arith)) (below_a w.p (omega arith))),
      )

  pub moment_3 : w.m ≡ 3 → IsMoment (difference_of (times_of w.q b) (times_of (w.p + w.q) a))
  unfolding moment_of total_of
  moment_3 m =
      let p = p_most w fine in
      let q = q_most w fine in (
        rw m
            (value_difference (times_of w.q b) (times_of (w.p + w.q) a) (value_times w.q b b_is) (value_times (w.p + w.q) a (value_sides w.a))),
        wide _ (below_difference (times_of w.q b) (times_of (w.p + w.q) a) (below_b w.q (omega arith)) (below_a (w.p + w.q) (omega arith))),
      )

  pub moment_4 : w.q ≤ w.p → w.m ≡ 4 → IsMoment (difference_of (times_of (w.p - w.q) a) (times_of w.q b))
  unfolding moment_of total_of
  moment_4 h m =
      let p = p_most w fine in
      let q = q_most w fine in (
        rw (m, ← less w.p w.q h)
            (value_difference (times_of (w.p - w.q) a) (times_of w.q b) (value_times (w.p - w.q) a (value_sides w.a)) (value_times w.q b b_is)),
        wide _ (below_difference (times_of (w.p - w.q) a) (times_of w.q b) (below_a (w.p - w.q) (omega arith)) (below_b w.q (omega arith))),
      )

  -- a moment fits
  pub fits : (x : Sides) → IsMoment x → Fits x
  fits x h = fits_below two_products x (omega arith) h.1
