-- What the test of an arm says in numbers, by opening it. Assumes nothing.
use mathlib.Core.Path.{◌≡◌}
use mathlib.Core.Bool.{true}
use native.Mathlib.Omega.{arith}
use lib.IntN.{ℤ, pos, negsuc}
use lib.Signed.{le_z, ◌≤ℤ◌}
use Rattle.laws.specs.Tests.{left, right}
use Rattle.laws.specs.Z.{zs}
use Rattle.paper.specs.Units.{is_arm}

-- an arm's range
abbrev pub IsArm : ℤ → Type 0
IsArm x = (negsuc 1999999 ≤ℤ x) × (x ≤ℤ pos 2000000)

pub arm_range : (x : ℤ) → is_arm x ≡ true → IsArm x
unfolding is_arm
arm_range x e =
    let l = left (le_z (negsuc 1999999) x) (le_z x (pos 2000000)) e in
    let r = right (le_z (negsuc 1999999) x) (le_z x (pos 2000000)) e in
    (omega (arith, zs), omega (arith, zs))
