-- `group::put_waters` meets its contract. The loop's invariant: the fields of the first k waters are made. Assumes nothing.
use mathlib.Core.Path.{◌≡◌}
use Prim.Native.Nat.{◌*◌, ◌≤◌}
use lib.ListN.{length}
use Rattle.group.specs.Shared.{FieldsTo}
use Rattle.group.proofs.put_waters.Given as goal

abbrev pub invariant-loop-field : goal.invariant-loop-field
invariant-loop-field l =
    (l.field-index ≤ length l.fields) × (l.water ≡ l.field-index * l.force.sheet.water.step) × (length l.fields ≡ length l.initial.fields) × FieldsTo l.force.sheet l.field-index l.fields
