-- What a change adds, where it is reckoned with: a sum with a weight and a product with an arm fit in their words and are what is
-- read back from there, and each side of a product is a sum of two products of sides. Assumes nothing.
use Prim.Native.Nat.{ℕ, ◌≤◌}
use mathlib.Core.Path.{◌≡◌}
use native.Mathlib.Omega.{arith}
use native.Mathlib.Nat.{mul-le-mul}
use lib.IntN.{ℤ, pos, negsuc, nat_abs, ◌+ℤ◌, ◌*ℤ◌}
use lib.Signed.{◌≤ℤ◌}
use mir.Syntax.{w64}
use mir.Val.{SFits, to_z}
use Rattle.laws.specs.Z.{zs, rd, back, is_nat, is_int, is_bits, is_add, mul-eq, one_side, abs_eq, goal_fits}
use Rattle.laws.specs.Sides.{sides_of, Below, below_sides}
use Rattle.balance.specs.Balance.{an_entry}

-- a weight and what a change adds to it
module _ (n : ℕ) (z : ℤ) (most : n ≤ 4000000) (low : negsuc 3999999 ≤ℤ z) (high : z ≤ℤ pos 4000000) where
  fits : SFits w64 z
  fits = omega (arith, zs, one_side z)

  pub sum_fits : SFits w64 (to_z w64 n +ℤ rd z)
  sum_fits = omega (arith, zs, back fits, is_add (is_bits n (omega arith)) (is_int (rd z)))

  pub sum_is : rd (to_z w64 n +ℤ rd z) ≡ pos n +ℤ z
  sum_is =
      omega (
        arith,
        zs,
        back sum_fits,
        back fits,
        is_add (is_bits n (omega arith)) (is_int (rd z)),
        is_add (is_nat n) (is_int z),
      )

-- a number that is not negative, without its sign
pub unsigned : (z : ℤ) → pos 0 ≤ℤ z → pos (nat_abs z) ≡ z
unsigned z h = omega (arith, zs, abs_eq z, one_side z)

pub small : (x y : ℤ) → negsuc 3999999 ≤ℤ x → x ≤ℤ pos 4000000 → negsuc 1999999 ≤ℤ y → y ≤ℤ pos 2000000 → Below an_entry (sides_of (x *ℤ y))
small x y l h m k =
    let a = below_sides 4000000 x l h (omega arith) (omega arith) in
    let b = below_sides 2000000 y m k (omega arith) (omega arith) in
    let uu = mul-le-mul a.up b.up in
    let ud = mul-le-mul a.up b.down in
    let du = mul-le-mul a.down b.up in
    let dd = mul-le-mul a.down b.down in
    record {
      up = omega (arith, mul-eq x y, one_side (x *ℤ y), uu, dd);
      down = omega (arith, mul-eq x y, one_side (x *ℤ y), ud, du);
    }

pub small_fits : (z : ℤ) → Below an_entry (sides_of z) → SFits w64 z
small_fits z h = goal_fits (omega (arith, h.up, h.down))
