-- What the ends of an accepted seat keep to, as bounds: each condition taken off the test in turn. Assumes nothing.
use mathlib.Core.Path.{◌≡◌}
use mathlib.Core.Bool.{true, false, and-false}
use native.Mathlib.Omega.{arith}
use lib.IntN.{ℤ}
use lib.Signed.{le_z}
use Rattle.laws.specs.Tests.{kept}
use Rattle.laws.specs.Z.{goal_le_z}
use Rattle.paper.specs.declared.Sheet.{Sheet}
use Rattle.paper.specs.declared.Seat.{Seat}
use Rattle.paper.specs.Units.{is_arm}
use Rattle.paper.specs.Refusals.{first_number, bad_arms, sheet_faults, bad_ends}
use Rattle.paper.proofs.Units.{IsArm, arm_range}
use Rattle.paper.proofs.Numbers.{no_first}

pub record Ends (f : Seat) : Type 0 where
  pub lower : IsArm f.lower
  pub higher : IsArm f.higher
  pub order : le_z f.lower f.higher ≡ true

-- both ends are arms
pub ends_arms : (f : Seat) → bad_ends f ≡ false → (is_arm f.lower ≡ true) × (is_arm f.higher ≡ true)
unfolding bad_ends
ends_arms f e = (kept (is_arm f.lower) e (λ h. simp h), kept (is_arm f.higher) e (λ h. simp (h, and-false)))

pub ends_of_lem : (f : Seat) → bad_ends f ≡ false → Ends f
unfolding bad_ends
ends_of_lem f e =
    let arms = ends_arms f e in
    record {
      lower = arm_range f.lower arms.0;
      higher = arm_range f.higher arms.1;
      order = kept (le_z f.lower f.higher) e (λ h. simp (h, and-false));
    }

-- the front arm of an accepted sheet, twice
at_least_itself : (x : ℤ) → le_z x x ≡ true
at_least_itself x = goal_le_z x x (omega arith)

pub fixed_ends : (s : Sheet) → first_number (sheet_faults s) ≡ 0 → bad_ends (record { lower = s.front.arm; higher = s.front.arm }) ≡ false
unfolding bad_ends sheet_faults bad_arms
fixed_ends s e =
    let arms = no_first 2 (bad_arms s) _ (omega arith) e in
    let front : is_arm s.front.arm ≡ true = kept (is_arm s.front.arm) arms (λ h. simp (h, and-false)) in
    rw (front, at_least_itself s.front.arm)
