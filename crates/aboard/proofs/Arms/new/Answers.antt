-- `Arms::new` meets its contract: each arm of an accepted sheet is in its range, and is what is read back from its bits.
-- Assumes nothing.
use mathlib.Core.Path.{◌≡◌}
use native.Mathlib.Omega.{arith}
use lib.IntN.{ℤ, pos, negsuc}
use Rattle.std.proofs.lemmas.Int.{ints}
use mir.Syntax.{w64}
use mir.Val.{of_z, to_z}
use mir.Facts.{to_z-of_z}
use Rattle.laws.specs.declared.Sides.{Sides}
use Rattle.laws.specs.Sides.{sides_of, sum_of, times_of, Below, fits_below, value_sum, value_times}
use Rattle.paper.proofs.Units.{IsArm}
use Rattle.sheet.proofs.Accepted.{Arms, accepted-sheet}
use Rattle.seat.specs.declared.InForce.{InForce}
use Rattle.aboard.specs.Sides.{Sided}
use Rattle.aboard.proofs.Standing.{sided}
use Rattle.aboard.proofs.Arms.new.Goals as goal

-- an arm is what is read back from its bits
read_back : (z : ℤ) → IsArm z → to_z w64 (of_z w64 z) ≡ z
read_back (pos n) h = to_z-of_z {w = w64} (record { sfits = omega (arith, ints) })
read_back (negsuc n) h = to_z-of_z {w = w64} (record { sfits = omega (arith, ints) })

arms_in : (x : InForce) → Arms x.sheet
arms_in x = (accepted-sheet x.sheet x.accepted).arms

-- an arm by its own sides, as the code makes them
made : (z : ℤ) (x : Sides) → IsArm z → x ≡ sides_of (to_z w64 (of_z w64 z)) → Sided 2000000 z x
made z x h e = rw (e, read_back z h) (sided z h)

-- 20 times the safe aft limit
safe_below : (x y : Sides) → Below 2000000 x → Below 2000000 y → Below 40000000 (sum_of (times_of 19 x) y)
safe_below x y h k = record { up = omega (arith, h.up, k.up); down = omega (arith, h.down, k.down) }

pub mul-requires : goal.mul-requires
mul-requires c =
    let a = made c.args.force.sheet.aft c.from-aft.result (arms_in c.args.force).aft c.from-aft.ensures in
    omega (arith, a.range)

pub add-safe-requires : goal.add-safe-requires
add-safe-requires c =
    let f = made c.args.force.sheet.fwd c.from-fwd.result (arms_in c.args.force).fwd c.from-fwd.ensures in
    let a = made c.args.force.sheet.aft c.from-aft.result (arms_in c.args.force).aft c.from-aft.ensures in
    rw c.mul.ensures (fits_below 40000000 _ (omega arith) (safe_below c.from-aft.result c.from-fwd.result a.range f.range))

pub invariant_of-result : goal.invariant_of-result
invariant_of-result c =
    let s = c.args.force.sheet in
    let arms = arms_in c.args.force in
    let f = made s.fwd c.from-fwd.result arms.fwd c.from-fwd.ensures in
    let a = made s.aft c.from-aft.result arms.aft c.from-aft.ensures in
    record {
      fwd_is = f;
      safe_is = rw (c.add-safe.ensures, c.mul.ensures) (record {
        value = value_sum (times_of 19 c.from-aft.result) c.from-fwd.result (value_times 19 c.from-aft.result a.value) f.value;
        range = safe_below c.from-aft.result c.from-fwd.result a.range f.range;
      });
      rear_is = made s.rear.arm c.from-rear.result arms.rear c.from-rear.ensures;
      water_is = made s.water.arm c.from-water.result arms.water c.from-water.ensures;
    }
