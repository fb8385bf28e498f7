-- What an accepted sheet keeps to, as bounds: each condition of its numbers taken off the list in turn. Assumes nothing.
use mathlib.Core.Path.{◌≡◌}
use mathlib.Core.Bool.{false, and-false}
use Prim.Native.Nat.{ℕ, ◌≤◌}
use native.Mathlib.Omega.{arith}
use lib.Dec.{leb}
use borrow.Author.Tests.{leb-true}
use Rattle.laws.specs.Tests.{kept, span}
use Rattle.paper.specs.declared.Sheet.{Sheet}
use Rattle.paper.specs.Units.{is_arm}
use Rattle.paper.specs.Rows.{row_count}
use Rattle.paper.specs.Refusals.{first_number, bad_arms, bad_ranges, bad_rows, is_step_to, sheet_faults}
use Rattle.paper.proofs.Units.{IsArm, arm_range}
use Rattle.paper.proofs.Numbers.{no_first, no_other}
use Rattle.sheet.proofs.Laws.{Ranges, ranges}

pub record Arms (s : Sheet) : Type 0 where
  pub fwd : IsArm s.fwd
  pub aft : IsArm s.aft
  pub front : IsArm s.front.arm
  pub rear : IsArm s.rear.arm
  pub water : IsArm s.water.arm

-- a step's range
abbrev pub IsStep : ℕ → ℕ → Type 0
IsStep most x = (1 ≤ x) × (x ≤ most)

pub record Steps (s : Sheet) : Type 0 where
  pub front : IsStep 500000 s.front.step
  pub rear : IsStep 500000 s.rear.step
  pub water : IsStep 2000000 s.water.step
  pub rows : row_count s ≤ 256

pub record Accepted (s : Sheet) : Type 0 where
  pub arms : Arms s
  pub ranges : Ranges s
  pub steps : Steps s

arms_of : (s : Sheet) → bad_arms s ≡ false → Arms s
unfolding bad_arms
arms_of s e =
    record {
      fwd = arm_range s.fwd (kept (is_arm s.fwd) e (λ h. simp h));
      aft = arm_range s.aft (kept (is_arm s.aft) e (λ h. simp (h, and-false)));
      front = arm_range s.front.arm (kept (is_arm s.front.arm) e (λ h. simp (h, and-false)));
      rear = arm_range s.rear.arm (kept (is_arm s.rear.arm) e (λ h. simp (h, and-false)));
      water = arm_range s.water.arm (kept (is_arm s.water.arm) e (λ h. simp (h, and-false)));
    }

steps_of : (s : Sheet) → bad_rows s ≡ false → Steps s
unfolding bad_rows
steps_of s e =
    record {
      front = span 1 500000 s.front.step (kept (is_step_to 500000 s.front) e (λ h. simp h));
      rear = span 1 500000 s.rear.step (kept (is_step_to 500000 s.rear) e (λ h. simp (h, and-false)));
      water = span 1 2000000 s.water.step (kept (is_step_to 2000000 s.water) e (λ h. simp (h, and-false)));
      rows = leb-true (row_count s) 256 (kept (leb (row_count s) 256) e (λ h. simp (h, and-false)));
    }

pub accepted-sheet : (s : Sheet) → first_number (sheet_faults s) ≡ 0 → Accepted s
unfolding sheet_faults
accepted-sheet s e =
    let e₄ = no_other 2 (bad_arms s) _ (omega arith) e in
    record {
      arms = arms_of s (no_first 2 (bad_arms s) _ (omega arith) e);
      ranges = ranges (no_first 4 (bad_ranges s) _ (omega arith) e₄);
      steps = steps_of s (no_first 5 (bad_rows s) _ (omega arith) (no_other 4 (bad_ranges s) _ (omega arith) e₄));
    }
