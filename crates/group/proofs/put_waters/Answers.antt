-- `group::put_waters` meets its contract. The loop's invariant: the fields of the first k waters are made. Assumes nothing.
use mathlib.Core.Path.{◌≡◌, ◌∙◌}
use Prim.Native.Nat.{ℕ, ◌*◌, ◌≤◌, ◌<◌}
use native.Mathlib.Nat.{add-mul, one-mul}
use native.Mathlib.Omega.{arith}
use lib.ListN.{length-set}
use Rattle.sheet.proofs.Accepted.{accepted-sheet}
use Rattle.seat.specs.declared.InForce.{InForce}
use Rattle.group.specs.Numbered.{waters}
use Rattle.group.proofs.Buffer.{water_in, fields_more}
use Rattle.group.proofs.put_waters.Goals as goal

-- the waters of an accepted sheet: a water is at most all of it
water_most : (x : InForce) (n : ℕ) → n ≡ waters x.sheet → (k : ℕ) → k < n → k * x.sheet.water.step ≤ 2000000
water_most x n e k h = omega (arith, water_in x.sheet n e 0 k h, (accepted-sheet x.sheet x.accepted).ranges.water)

pub field-requires : goal.field-requires
field-requires c =
    let inv = c.loop-field.invariant in
    omega (arith, water_most c.args.force.now _ c.requires c.loop-field.field-index (omega (arith, inv.2, c.loop-field-test.true)), inv.1)

pub overflow_add-water : goal.overflow_add-water
overflow_add-water c =
    let x = c.args.force.now in
    let inv = c.loop-field.invariant in
    omega (arith, water_most x _ c.requires c.loop-field.field-index (omega (arith, inv.2, c.loop-field-test.true)), inv.1, (accepted-sheet x.sheet x.accepted).steps.water.1)

pub loop-field-preserved : goal.loop-field-preserved
loop-field-preserved c =
    let s = c.args.force.now.sheet in
    let k = c.loop-field.field-index in
    let inv = c.loop-field.invariant in
    let length_is = length-set c.loop-field.fields k c.field.result in (
      omega (arith, length_is, inv.2, c.loop-field-test.true),
      omega (arith, inv.1, add-mul k 1 s.water.step, one-mul s.water.step),
      length_is ∙ inv.2,
      fields_more s k c.field.result c.loop-field.fields (omega (arith, inv.2, c.loop-field-test.true)) inv.3 (rw (← inv.1) c.field.ensures),
    )

pub returns : goal.returns
returns c =
    let inv = c.loop-field.invariant in
    record { count = inv.2 ∙ c.requires; each = λ k h. inv.3 k (omega (arith, h, c.requires, c.loop-field-test.false)) }
