-- What an accepted change keeps to: a weighing stands, and its weight is in its range. Each condition taken off the test in turn.
-- Assumes nothing.
use mathlib.Core.Path.{◌≡◌}
use mathlib.Core.Bool.{true, false, not, ◌&&◌}
use mathlib.Core.Option.{Option}
use native.Mathlib.Omega.{arith}
use lib.Dec.{leb, eqb}
use lib.IntN.{nat_abs}
use Rattle.laws.specs.Tests.{left, kept}
use Rattle.paper.specs.declared.Change.{Change}
use Rattle.paper.specs.Units.{is_arm}
use Rattle.paper.specs.Record.{Balance, is_none}
use Rattle.paper.specs.Refusals.{first_number, is_change, bad_change, change_faults}
use Rattle.paper.proofs.Units.{IsArm, arm_range}
use Rattle.paper.proofs.Numbers.{no_first, no_other}

-- its weight has the range of an arm
pub weight_range : (x : Change) → is_change x ≡ true → IsArm x.c
unfolding is_change is_arm
weight_range x e =
    let some = not (eqb (nat_abs x.c) 0) in
    arm_range x.c (left (is_arm x.c) some (left (is_arm x.c && some) (leb x.flag 1) e))

in_its_ranges : (o : Option Balance) (x : Change) → bad_change o x ≡ false → is_change x ≡ true
unfolding bad_change
in_its_ranges o x e = kept (is_change x) e (λ h. simp h)

pub accepted_change : (o : Option Balance) (x : Change) → first_number (change_faults o x) ≡ 0 → (is_none o ≡ false) × (is_change x ≡ true)
unfolding change_faults
accepted_change o x e =
    let e₂ = no_other 7 (is_none o) _ (omega arith) e in
    let e₃ = no_other 2 (not (is_arm x.arm)) _ (omega arith) e₂ in
    (no_first 7 (is_none o) _ (omega arith) e, in_its_ranges o x (no_first 6 (bad_change o x) _ (omega arith) e₃))
