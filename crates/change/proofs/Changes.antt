-- What is asked of a change, and what it makes of a balance, over ℤ. Assumes nothing.
use mathlib.Core.Path.{◌≡◌, refl, ◌∙◌, ap, ap₂}
use mathlib.Core.Bool.{Bool, true, false, not, cond}
use mathlib.Core.Option.{some}
use mathlib.Core.List.{[], ◌∷◌}
use Prim.Native.Nat.{ℕ}
use native.Mathlib.Omega.{arith}
use lib.Dec.{eqb}
use lib.IntN.{ℤ, pos, negsuc, ◌+ℤ◌, ◌*ℤ◌}
use lib.Signed.{le_z, lt_z, ◌≤ℤ◌}
use borrow.Author.Tests.{not-false}
use Rattle.laws.specs.Tests.{both, left, right, not_left, not_right}
use Rattle.laws.specs.Z.{zs, is_nat, is_int, is_mul, goal_le_z, hyp_nlt_z}
use Rattle.laws.specs.Sides.{value_of, sides_of, sum_of, value_sides, value_sum}
use Rattle.paper.proofs.Changes.{weight_range}
use Rattle.paper.proofs.Numbers.{no_first, no_other}
use Rattle.paper.specs.declared.Change.{Change}
use Rattle.paper.specs.Units.{between, is_arm, half_grams}
use Rattle.paper.specs.Record as paper
use Rattle.paper.specs.Record.{is_none}
use Rattle.paper.specs.Refusals.{is_total, is_non_lifting, is_change, afterwards, bad_change, change_faults, first_number, ◌when◌}
use Rattle.balance.specs.declared.Balance.{Balance}
use Rattle.balance.specs.Balance.{plain}

-- ---- a range as two orders

pub ranged : {lo hi z : ℤ} → between lo hi z ≡ true → (lo ≤ℤ z) × (z ≤ℤ hi)
ranged {lo} {hi} {z} e =
    let l = left (le_z lo z) (le_z z hi) e in
    let h = right (le_z lo z) (le_z z hi) e in
    (omega (arith, zs), omega (arith, zs))

-- a number that lies neither before it nor behind it
pub inside : (lo hi z : ℤ) → lt_z z lo ≡ false → lt_z hi z ≡ false → between lo hi z ≡ true
inside lo hi z l h = both (le_z lo z) (le_z z hi) (goal_le_z lo z (hyp_nlt_z z lo l)) (goal_le_z z hi (hyp_nlt_z hi z h))

-- ---- what a change makes of G and n

-- what it adds, in half grams, and what of that counts as non-lifting
abbrev pub gain : Change → ℤ
gain x = half_grams x.c

abbrev pub part : Change → ℤ
part x = cond (eqb x.flag 1) (gain x) (pos 0)

pub gain_range : (x : Change) → is_change x ≡ true → (negsuc 3999999 ≤ℤ gain x) × (gain x ≤ℤ pos 4000000)
unfolding half_grams
gain_range x e =
    let r = weight_range x e in
    let d = is_mul (is_nat 2) (is_int x.c) in
    (omega (arith, zs, r.0, d), omega (arith, zs, r.1, d))

all_or_none : (t : Bool) (z : ℤ) → (negsuc 3999999 ≤ℤ z) × (z ≤ℤ pos 4000000) → (negsuc 3999999 ≤ℤ cond t z (pos 0)) × (cond t z (pos 0) ≤ℤ pos 4000000)
all_or_none true z r = r
all_or_none false z r = (omega (arith, zs), omega (arith, zs))

pub part_range : (x : Change) → is_change x ≡ true → (negsuc 3999999 ≤ℤ part x) × (part x ≤ℤ pos 4000000)
part_range x e = all_or_none (eqb x.flag 1) (gain x) (gain_range x e)

module _ (b : Balance) (x : Change) where
  pub total_test : (t : ℤ) → t ≡ pos b.total +ℤ gain x → between (pos 2) (pos 4000000) t ≡ is_total (paper.changed (plain b) x)
  unfolding is_total paper.changed paper.with half_grams
  total_test t e = ap (between (pos 2) (pos 4000000)) e

  pub part_test : (t n : ℤ) → t ≡ pos b.total +ℤ gain x → n ≡ pos b.nonlifting +ℤ part x → between (pos 0) t n ≡ is_non_lifting (paper.changed (plain b) x)
  unfolding is_non_lifting paper.changed paper.with
  part_test t n e f = ap₂ (between (pos 0)) e f

-- the code's new balance is the paper's
pub after_is : (b r : Balance) (x : Change) → pos r.total ≡ pos b.total +ℤ gain x → pos r.nonlifting ≡ pos b.nonlifting +ℤ part x
    → r.moment ≡ sum_of b.moment (sides_of (gain x *ℤ x.arm)) → plain r ≡ paper.changed (plain b) x
unfolding paper.changed paper.with
after_is b r x et en em =
    let more = sides_of (gain x *ℤ x.arm) in
    let moment : value_of r.moment ≡ value_of b.moment +ℤ gain x *ℤ x.arm = ap value_of em ∙ value_sum b.moment more refl (value_sides (gain x *ℤ x.arm)) in
    λ k. record { total = et k; moment = moment k; non_lifting = en k }

-- ---- the number of a change behind 9, by what holds

module _ (b : Balance) (x : Change) where
  abbrev Number : ℕ → Type 0
  Number n = n ≡ first_number (change_faults (some (plain b)) x)

  pub arm_bad : is_arm x.arm ≡ false → Number 2
  unfolding first_number change_faults is_none
  arm_bad e = simp e

  pub change_bad : is_arm x.arm ≡ true → is_change x ≡ false → Number 6
  unfolding first_number change_faults is_none bad_change
  change_bad e f = simp (e, f)

  module _ (e : is_arm x.arm ≡ true) (f : is_change x ≡ true) where
    pub total_bad : is_total (paper.changed (plain b) x) ≡ false → Number 6
    unfolding first_number change_faults is_none bad_change afterwards
    total_bad g = simp (e, f, g)

    pub part_bad : is_total (paper.changed (plain b) x) ≡ true → is_non_lifting (paper.changed (plain b) x) ≡ false → Number 3
    unfolding first_number change_faults is_none bad_change afterwards
    part_bad g h = simp (e, f, g, h)

    pub all_fine : is_total (paper.changed (plain b) x) ≡ true → is_non_lifting (paper.changed (plain b) x) ≡ true → Number 0
    unfolding first_number change_faults is_none bad_change afterwards
    all_fine g h = simp (e, f, g, h)

  -- a change that gets no number
  module _ (clear : first_number (change_faults (some (plain b)) x) ≡ 0) where
    faults : first_number (2 when not (is_arm x.arm) ∷ 6 when bad_change (some (plain b)) x ∷ 3 when not (is_non_lifting (paper.changed (plain b) x)) ∷ []) ≡ 0
    unfolding change_faults afterwards
    faults = no_other 7 (is_none (some (plain b))) _ (omega arith) clear

    later : first_number (6 when bad_change (some (plain b)) x ∷ 3 when not (is_non_lifting (paper.changed (plain b) x)) ∷ []) ≡ 0
    later = no_other 2 (not (is_arm x.arm)) _ (omega arith) faults

    pub arm_fine : is_arm x.arm ≡ true
    arm_fine = not-false _ (no_first 2 (not (is_arm x.arm)) _ (omega arith) faults)

    sound : bad_change (some (plain b)) x ≡ false
    sound = no_first 6 (bad_change (some (plain b)) x) _ (omega arith) later

    pub change_fine : is_change x ≡ true
    unfolding bad_change
    change_fine = not-false _ (not_left (not (is_change x)) _ sound)

    pub total_fine : is_total (paper.changed (plain b) x) ≡ true
    unfolding bad_change afterwards
    total_fine = not-false _ (not_right (not (is_change x)) (not (is_total (paper.changed (plain b) x))) sound)

    pub part_fine : is_non_lifting (paper.changed (plain b) x) ≡ true
    part_fine =
        not-false _
        (no_first 3 (not (is_non_lifting (paper.changed (plain b) x))) [] (omega arith) (no_other 6 (bad_change (some (plain b)) x) _ (omega arith) later))

    -- the ranges of G and n afterwards
    pub total_range : (pos 2 ≤ℤ (pos b.total +ℤ gain x)) × ((pos b.total +ℤ gain x) ≤ℤ pos 4000000)
    total_range = ranged (total_test b x (pos b.total +ℤ gain x) refl ∙ total_fine)

    pub part-within : (pos 0 ≤ℤ (pos b.nonlifting +ℤ part x)) × ((pos b.nonlifting +ℤ part x) ≤ℤ (pos b.total +ℤ gain x))
    part-within = ranged (part_test b x (pos b.total +ℤ gain x) (pos b.nonlifting +ℤ part x) refl refl ∙ part_fine)
