-- What a row prints: the steps that keep every limit are exactly the steps in its range. Both ends are such steps, and limits that
-- half-planes say grow evenly with the front load, so what lies between them keeps them too. One argument for all limits; those of
-- a sheet, a seat and a balance are `limits_of`. Assumes nothing.
use mathlib.Core.Path.{◌≡◌, refl, sym, ap, ◌∙◌}
use mathlib.Core.Bool.{Bool, true, false, not, ◌&&◌, true≢false}
use mathlib.Core.List.{List, [], ◌∷◌}
use Prim.Native.Nat.{ℕ, ◌%◌, ◌≤◌}
use native.Mathlib.Omega.{arith}
use lib.Dec.{leb, eqb}
use lib.IntN.{ℤ}
use borrow.Author.Tests.{leb-true}
use Rattle.std.specs.Prelude.{Some, None}
use Rattle.laws.specs.Tests.{same, both, left, right, right_fails, in_span, span_lo, span_hi, and_by, and_not, clash}
use Rattle.paper.specs.declared.Sheet.{Sheet}
use Rattle.paper.specs.declared.Seat.{Seat}
use Rattle.paper.specs.Record.{Balance}
use Rattle.paper.specs.Rows.{Row, lines, all, any_fails, keeps_at, breaks_at, up_to, travel, breaks, is_step, keeps, good, row_of, row, in_range, is_blank}
use Rattle.planes.specs.Plane.{HalfPlane, kept_at, Says}
use Rattle.planes.proofs.Searches.{up_to_lem, up_to_at, Outcome, a_range, a_blank, outcome, found, row_of_none}
use Rattle.planes.proofs.Arms.{arm_at, every_arm_lem, at_every_arm, no_arm, kept-ends}
use Rattle.planes.proofs.HalfPlanes.{planes_of, keeps_planes}
use Rattle.planes.proofs.Convex.{convex}

-- ---- any limits

-- `keeps` tests the front loads of a row: those that are steps, which go up to `most`, and keep some limits with every part of
-- the water w aboard. `at` tests a load and a part of the water, and there are half-planes that say what it says
pub record Limits (step : ℕ → Bool) (most : ℕ) (at : ℕ → ℕ → Bool) (w : ℕ) (keeps : ℕ → Bool) : Type 0 where
  pub planes : List HalfPlane
  pub says : Says planes at
  pub bound : (p : ℕ) → step p ≡ true → p ≤ most
  pub is : (p : ℕ) → keeps p ≡ (step p && up_to (at p) w)

-- a blank row has no load in its range
blank_range : (x : Row) (p : ℕ) → is_blank x ≡ true → in_range p x ≡ false
blank_range (Some (lo, hi)) p e = absurd (true≢false (sym e))
blank_range None p e = refl

module _ {step : ℕ → Bool} {most : ℕ} {at : ℕ → ℕ → Bool} {w : ℕ} {keeps : ℕ → Bool} (l : Limits step most at w keeps) where
  pub is_step_lem : (p : ℕ) → keeps p ≡ true → step p ≡ true
  is_step_lem p k = left (step p) (up_to (at p) w) (sym (l.is p) ∙ k)

  keeps_at_lem : (p : ℕ) → keeps p ≡ true → (v : ℕ) → v ≤ w → at p v ≡ true
  keeps_at_lem p k = up_to_at (at p) w (right (step p) (up_to (at p) w) (sym (l.is p) ∙ k))

  -- one in the range of a row whose ends keep every limit
  between_ends : (p lo hi : ℕ) → keeps lo ≡ true → keeps hi ≡ true → step p ≡ true → in_range p (Some (lo, hi)) ≡ true → keeps p ≡ true
  between_ends p lo hi kl kh s e =
      let a = span_lo lo hi p e in
      let b = span_hi lo hi p e in
      l.is p
      ∙ both (step p) (up_to (at p) w) s
      (up_to_lem (at p) w (λ v h. convex at l.planes l.says v lo p hi a b (keeps_at_lem lo kl v h) (keeps_at_lem hi kh v h)))

  by_outcome : (p : ℕ) → Outcome keeps most → keeps p ≡ (step p && in_range p (row_of keeps most))
  by_outcome p (a_range lo hi e ends) =
      rw e (same (keeps p) (step p && in_range p (Some (lo, hi)))
      (λ k.
      let s = is_step_lem p k in
      let m = ends.4 p (l.bound p s) k in
      both (step p) (in_range p (Some (lo, hi))) s (in_span lo hi p m.0 m.1))
      (λ k. between_ends p lo hi ends.0 ends.1 (left (step p) (in_range p (Some (lo, hi))) k) (right (step p) (in_range p (Some (lo, hi))) k)))
  by_outcome p (a_blank e none) =
      rw e (same (keeps p) (step p && false)
      (λ k. absurd (clash (keeps p) k (none p (l.bound p (is_step_lem p k)))))
      (λ k. absurd (true≢false (sym k ∙ right_fails (step p) false refl))))

  -- the steps that keep every limit are exactly the steps in the range that the row prints
  pub kept_steps : (p : ℕ) → keeps p ≡ (step p && in_range p (row_of keeps most))
  kept_steps p = by_outcome p (outcome keeps most)

  -- a step in a printed range keeps the limits with each part of the water aboard
  pub each_kept : (p v : ℕ) → step p ≡ true → in_range p (row_of keeps most) ≡ true → v ≤ w → at p v ≡ true
  each_kept p v s range h = keeps_at_lem p (kept_steps p ∙ both (step p) (in_range p (row_of keeps most)) s range) v h

  -- no row misses a step that keeps every limit
  pub none_missed : (p : ℕ) → (keeps p && not (in_range p (row_of keeps most))) ≡ false
  none_missed p =
      ap (λ (k : Bool). k && not (in_range p (row_of keeps most))) (kept_steps p) ∙ and_not (step p) (in_range p (row_of keeps most))

  -- a row is blank where no front load keeps every limit, and only there
  pub blank_none : is_blank (row_of keeps most) ≡ true → (p : ℕ) → keeps p ≡ false
  blank_none e p = kept_steps p ∙ right_fails (step p) (in_range p (row_of keeps most)) (blank_range (row_of keeps most) p e)

  pub none_blank : ((p : ℕ) → keeps p ≡ false) → is_blank (row_of keeps most) ≡ true
  none_blank h = ap is_blank (row_of_none keeps most (λ p k. h p))

  -- both ends of a printed range keep the limits with none of the water aboard
  pub ends-kept : (lo hi : ℕ) → row_of keeps most ≡ Some (lo, hi) → (at lo 0 ≡ true) × (at hi 0 ≡ true)
  ends-kept lo hi e = let h = found keeps most lo hi e in (keeps_at_lem lo h.0 0 (omega arith), keeps_at_lem hi h.1 0 (omega arith))

-- ---- those of a sheet, a seat and a balance

keeps_is : (s : Sheet) (arm : ℤ) (b : Balance) (r w p : ℕ) → keeps s arm b r w p ≡ (is_step s p && up_to (keeps_at s arm b r p) w)
unfolding keeps
keeps_is s arm b r w p = and_by (is_step s p) (up_to (keeps_at s arm b r p) w)

-- a load is good where it is a step, and the limits hold with every part of the water at every arm: whether the arms or the parts
-- are gone through first makes no difference
pub good_is : (s : Sheet) (f : Seat) (b : Balance) (r w p : ℕ) → good s f b r w p ≡ (is_step s p && up_to (kept_at s f b r p) w)
unfolding kept_at
good_is s f b r w p =
    let step = is_step s p in
    let parts : ℤ → Bool = λ arm. up_to (keeps_at s arm b r p) w in
    same (good s f b r w p) (step && up_to (kept_at s f b r p) w)
    (λ e.
    let each : (d : ℕ) → d ≤ travel f → (step && parts (arm_at f d)) ≡ true =
    λ d h. sym (keeps_is s (arm_at f d) b r w p) ∙ at_every_arm f (λ arm. keeps s arm b r w p) e d h in
    both step (up_to (kept_at s f b r p) w) (left step _ (each 0 (omega arith)))
    (up_to_lem (kept_at s f b r p) w
    (λ v h. every_arm_lem f (λ arm. keeps_at s arm b r p v) (λ d k. up_to_at (keeps_at s (arm_at f d) b r p) w (right step _ (each d k)) v h))))
    (λ e.
    every_arm_lem f (λ arm. keeps s arm b r w p)
    (λ d h.
    keeps_is s (arm_at f d) b r w p
    ∙ both step (parts (arm_at f d)) (left step _ e)
    (up_to_lem (keeps_at s (arm_at f d) b r p) w
    (λ v k. at_every_arm f (λ arm. keeps_at s arm b r p v) (up_to_at (kept_at s f b r p) w (right step _ e) v k) d h))))

step_most : (s : Sheet) (p : ℕ) → is_step s p ≡ true → p ≤ s.front.most
unfolding is_step
step_most s p e = leb-true p s.front.most (right (eqb (p % s.front.step) 0 && leb s.least p) (leb p s.front.most) e)

pub limits_of : (s : Sheet) (f : Seat) (b : Balance) (r w : ℕ) → Limits (is_step s) s.front.most (kept_at s f b r) w (good s f b r w)
limits_of s f b r w =
    record { planes = planes_of s f b r; says = keeps_planes s f b r; bound = step_most s; is = good_is s f b r w }

-- what keeps them breaks none: no line fails where all hold
fails : (xs : List Bool) → all xs ≡ true → any_fails xs ≡ false
unfolding all any_fails
fails [] e = refl
fails (true ∷ xs) e = fails xs e
fails (false ∷ xs) e = sym e

pub breaks_none : (s : Sheet) (f : Seat) (b : Balance) (r p v : ℕ) → kept_at s f b r p v ≡ true → breaks s f b r p v ≡ false
unfolding kept_at keeps_at breaks_at
breaks_none s f b r p v e =
    no_arm f (λ arm. breaks_at s arm b r p v)
    (λ d h. fails (lines s (arm_at f d) b r p v) (at_every_arm f (λ arm. keeps_at s arm b r p v) e d h))

-- a printed range ends at the greatest front load at most
pub range_most : (s : Sheet) (f : Seat) (b : Balance) (r w lo hi : ℕ) → row s f b r w ≡ Some (lo, hi) → (lo ≤ s.front.most) × (hi ≤ s.front.most)
unfolding row
range_most s f b r w lo hi e = let h = found (good s f b r w) s.front.most lo hi e in (h.2, h.3)

-- and does not begin at 0: nobody in the seat breaks a limit, whatever the water and wherever the seat
pub empty_breaks : (s : Sheet) (arm : ℤ) (b : Balance) (r v : ℕ) → breaks_at s arm b r 0 v ≡ true
unfolding breaks_at any_fails lines
empty_breaks s arm b r v = refl

pub range_occupied : (s : Sheet) (f : Seat) (b : Balance) (r w lo hi : ℕ) → row s f b r w ≡ Some (lo, hi) → 1 ≤ lo
unfolding row
range_occupied s f b r w lo hi e = leb-true 1 lo (kept-ends s f b r lo 0 (ends-kept (limits_of s f b r w) lo hi e).0).seat
