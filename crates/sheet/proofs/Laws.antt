-- The ranges and steps of a data sheet as bounds. Assumes nothing.
use mathlib.Core.Path.{◌≡◌}
use mathlib.Core.Bool.{true, false, and-false}
use Prim.Native.Nat.{ℕ, ◌≤◌}
use native.Mathlib.Omega.{arith}
use borrow.Author.Tests.{le-leb, leb-true}
use lib.Dec.{leb}
use lib.Signed.{lt_z}
use Rattle.laws.specs.Tests.{left, kept}
use Rattle.paper.specs.Units.{is_weight}
use Rattle.paper.specs.Refusals.{is_step_to, bad_ranges}
use Rattle.paper.specs.declared.Station.{Station}
use Rattle.paper.specs.declared.Sheet.{Sheet}

-- what a sheet's ranges ask, as bounds; DRY is a weight where WET is one
pub record Ranges (s : Sheet) : Type 0 where
  pub limits : lt_z s.fwd s.aft ≡ true
  pub some : 1 ≤ s.dry
  pub dry : s.dry ≤ s.wet
  pub wet : s.wet ≤ 2000000
  pub nlp : s.nlp ≤ 2000000
  pub least : s.least ≤ s.front.most
  pub front : s.front.most ≤ 500000
  pub rear : s.rear.most ≤ 500000
  pub water : s.water.most ≤ 2000000

pub ranges : {s : Sheet} → bad_ranges s ≡ false → Ranges s
unfolding bad_ranges is_weight
ranges {s} e =
    record {
      limits = kept (lt_z s.fwd s.aft) e (λ h. simp h);
      some = leb-true _ _ (kept (leb 1 s.dry) e (λ h. simp (h, and-false)));
      dry = leb-true _ _ (kept (leb s.dry s.wet) e (λ h. simp (h, and-false)));
      wet = leb-true _ _ (kept (leb s.wet 2000000) e (λ h. simp (h, and-false)));
      nlp = leb-true _ _ (kept (leb s.nlp 2000000) e (λ h. simp (h, and-false)));
      least = leb-true _ _ (kept (leb s.least s.front.most) e (λ h. simp (h, and-false)));
      front = leb-true _ _ (kept (leb s.front.most 500000) e (λ h. simp (h, and-false)));
      rear = leb-true _ _ (kept (leb s.rear.most 500000) e (λ h. simp (h, and-false)));
      water = leb-true _ _ (kept (leb s.water.most 2000000) e (λ h. simp (h, and-false)));
    }

pub within : {s : Sheet} → Ranges s → bad_ranges s ≡ false
unfolding bad_ranges is_weight
within {s} r =
    simp (
      r.limits,
      le-leb _ _ r.some,
      le-leb _ _ r.dry,
      le-leb s.dry 2000000 (omega arith),
      le-leb _ _ r.wet,
      le-leb _ _ r.nlp,
      le-leb _ _ r.least,
      le-leb _ _ r.front,
      le-leb _ _ r.rear,
      le-leb _ _ r.water,
    )

-- a step in its range is not 0
pub stepped : (most : ℕ) (t : Station) → is_step_to most t ≡ true → 1 ≤ t.step
stepped most t e = leb-true _ _ (left (leb 1 t.step) (leb t.step most) e)
