-- The two ends of a seat decide: a load is never negative, so that it turns the more aft the higher its arm is. Hence FWD's line is
-- hardest at the lower end and the safe aft limit's at the higher one, and the other lines do not ask where the load sits.
-- Assumes nothing.
use mathlib.Core.Path.{◌≡◌, sym, ap, ◌∙◌}
use mathlib.Core.Bool.{Bool, true, false, not, ◌&&◌}
use Prim.Native.Nat.{ℕ, ◌+◌, ◌≤◌}
use native.Mathlib.Nat.{mul-le-mul_left}
use native.Mathlib.Omega.{arith}
use lib.Dec.{leb}
use lib.IntN.{ℤ, pos, nat_abs, ◌+ℤ◌, ◌-ℤ◌}
use lib.Signed.{le_z}
use borrow.Author.Tests.{leb-true, le-leb}
use Rattle.laws.specs.Tests.{same, both, left, right, turned_no}
use Rattle.laws.specs.Z.{up, dn, is_nat, is_int, is_add, is_sub, same as same_number, hyp_eq, hyp_le_z, goal_le_z, abs_eq, one_side}
use Rattle.paper.specs.declared.Sheet.{Sheet}
use Rattle.paper.specs.declared.Seat.{Seat}
use Rattle.paper.specs.Units.{between}
use Rattle.paper.specs.Record.{Balance}
use Rattle.paper.specs.Rows.{travel, every_arm, some_arm, keeps_at}
use Rattle.planes.specs.Plane.{kept_at}
use Rattle.planes.proofs.Searches.{up_to_lem, up_to_at, one_not_all}
use Rattle.planes.proofs.Lines.{Parts, PartsOf, parts_of, parts_of_lem, fwd_low, fwd_high, aft_low, aft_high, fwd_line_lem, aft_line_lem, laden_on_total, laden_on_part, dry_line, wet_line, nlp_line, fwd_line, aft_line, Hold, lines_hold, hold_lines}

-- ---- the arms of a seat

-- so far behind the lower end
abbrev pub arm_at : Seat → ℕ → ℤ
arm_at f d = f.lower +ℤ pos d

-- the last of them
abbrev pub last : Seat → ℤ
last f = arm_at f (travel f)

pub arm_at_none : (f : Seat) → arm_at f 0 ≡ f.lower
arm_at_none f = same_number (is_add (is_int f.lower) (is_nat 0)) (is_int f.lower) (omega arith)

-- is the higher end, where that is not ahead of the lower one
pub last_is : (f : Seat) → le_z f.lower f.higher ≡ true → last f ≡ f.higher
last_is f h =
    let far = is_sub (is_int f.higher) (is_int f.lower) in
    same_number (is_add (is_int f.lower) (is_nat (travel f))) (is_int f.higher)
    (omega (arith, far.is, abs_eq (f.higher -ℤ f.lower), one_side (f.higher -ℤ f.lower), hyp_le_z f.lower f.higher h))

module _ (f : Seat) (q : ℤ → Bool) where
  pub every_arm_lem : ((d : ℕ) → d ≤ travel f → q (arm_at f d) ≡ true) → every_arm f q ≡ true
  unfolding every_arm
  every_arm_lem h = up_to_lem (λ (d : ℕ). q (arm_at f d)) (travel f) h

  pub at_every_arm : every_arm f q ≡ true → (d : ℕ) → d ≤ travel f → q (arm_at f d) ≡ true
  unfolding every_arm
  at_every_arm e = up_to_at (λ (d : ℕ). q (arm_at f d)) (travel f) e

  -- some arm passes where not every one fails
  pub some_not_every : some_arm f q ≡ not (every_arm f (λ (arm : ℤ). not (q arm)))
  unfolding some_arm every_arm
  some_not_every = one_not_all (λ (d : ℕ). q (arm_at f d)) (travel f)

pub no_arm : (f : Seat) (q : ℤ → Bool) → ((d : ℕ) → d ≤ travel f → q (arm_at f d) ≡ false) → some_arm f q ≡ false
no_arm f q h =
    some_not_every f q ∙ ap not (every_arm_lem f (λ (arm : ℤ). not (q arm)) (λ d k. turned_no (q (arm_at f d)) (h d k)))

-- ---- which arms these are, where the lower end is not behind the higher one: the whole numbers between the two, both included

module _ (f : Seat) (o : le_z f.lower f.higher ≡ true) where
  -- how far an arm between them lies behind the lower end
  far : ℤ → ℕ
  far arm = nat_abs (arm -ℤ f.lower)

  arm_far : (arm : ℤ) → between f.lower f.higher arm ≡ true → (arm_at f (far arm) ≡ arm) × (far arm ≤ travel f)
  unfolding far
  arm_far arm e =
      let low = hyp_le_z f.lower arm (left (le_z f.lower arm) (le_z arm f.higher) e) in
      let high = hyp_le_z arm f.higher (right (le_z f.lower arm) (le_z arm f.higher) e) in
      let d = is_sub (is_int arm) (is_int f.lower) in
      let w = is_sub (is_int f.higher) (is_int f.lower) in (
        same_number (is_add (is_int f.lower) (is_nat (far arm))) (is_int arm) (omega (arith, d.is, abs_eq (arm -ℤ f.lower), one_side (arm -ℤ f.lower), low)),
        omega (arith, d.is, w.is, abs_eq (arm -ℤ f.lower), one_side (arm -ℤ f.lower), abs_eq (f.higher -ℤ f.lower), one_side (f.higher -ℤ f.lower), low, high),
      )

  arm_within : (d : ℕ) → d ≤ travel f → between f.lower f.higher (arm_at f d) ≡ true
  arm_within d h =
      let a = is_add (is_int f.lower) (is_nat d) in
      let z = hyp_eq (last_is f o) in
      let l = is_add (is_int f.lower) (is_nat (travel f)) in
      both (le_z f.lower (arm_at f d)) (le_z (arm_at f d) f.higher) (goal_le_z f.lower (arm_at f d) (omega (arith, a.is))) (goal_le_z (arm_at f d) f.higher (omega (arith, a.is, l.is, z)))

  pub every_between : (q : ℤ → Bool) → (every_arm f q ≡ true → (arm : ℤ) → between f.lower f.higher arm ≡ true → q arm ≡ true) × (((arm : ℤ) → between f.lower f.higher arm ≡ true → q arm ≡ true) → every_arm f q ≡ true)
  every_between q = (
    λ e arm b. let d = arm_far arm b in ap q (sym d.0) ∙ at_every_arm f q e (far arm) d.1,
    λ h. every_arm_lem f q (λ d k. h (arm_at f d) (arm_within d k)),
  )

-- ---- the lines at one arm and at another

module _ (s : Sheet) (f : Seat) (b : Balance) (r p v : ℕ) where
  -- the integers of the lines, with the arm counted from the lower end
  abbrev parts : ℕ → Parts
  parts d =
      record {
        total = (parts_of s f.lower b).total;
        moment = (parts_of s f.lower b).moment;
        non_lifting = (parts_of s f.lower b).non_lifting;
        fwd = (parts_of s f.lower b).fwd;
        aft = (parts_of s f.lower b).aft;
        front = record { up = up f.lower + d; down = dn f.lower };
        rear = (parts_of s f.lower b).rear;
        water = (parts_of s f.lower b).water;
      }

  parts_at : (d : ℕ) → PartsOf s (arm_at f d) b (parts d)
  parts_at d =
      let o = parts_of_lem s f.lower b in
      let arm = is_add (is_int f.lower) (is_nat d) in
      record {
        total = o.total;
        moment = o.moment;
        non_lifting = o.non_lifting;
        fwd = o.fwd;
        aft = o.aft;
        front = record { is = omega (arith, arm.is) };
        rear = o.rear;
        water = o.water;
      }

  -- what FWD's line says of an arm it says of every higher one
  pub fwd_further : (c d : ℕ) → c ≤ d → fwd_line s (arm_at f c) b r p v ≡ true → fwd_line s (arm_at f d) b r p v ≡ true
  fwd_further c d h e =
      let k = leb-true (fwd_low (parts c) r p v) (fwd_high (parts c) r p v) (sym (fwd_line_lem s (arm_at f c) b (parts c) (parts_at c) r p v) ∙ e) in
      fwd_line_lem s (arm_at f d) b (parts d) (parts_at d) r p v
      ∙ le-leb (fwd_low (parts d) r p v) (fwd_high (parts d) r p v) (omega (arith, mul-le-mul_left p h))

  -- and the safe aft limit's of every lower one
  pub aft_nearer : (c d : ℕ) → c ≤ d → aft_line s (arm_at f d) b r p v ≡ true → aft_line s (arm_at f c) b r p v ≡ true
  aft_nearer c d h e =
      let k = leb-true (aft_low (parts d) r p v) (aft_high (parts d) r p v) (sym (aft_line_lem s (arm_at f d) b (parts d) (parts_at d) r p v) ∙ e) in
      aft_line_lem s (arm_at f c) b (parts c) (parts_at c) r p v
      ∙ le-leb (aft_low (parts c) r p v) (aft_high (parts c) r p v) (omega (arith, mul-le-mul_left p h))

-- what is weighed does not depend on the arm
module _ (s : Sheet) (arm other : ℤ) (b : Balance) (r p v : ℕ) where
  dry_same : dry_line s arm b r p v ≡ dry_line s other b r p v
  dry_same = rw (laden_on_total s arm b r p 0, laden_on_total s other b r p 0)

  wet_same : wet_line s arm b r p v ≡ wet_line s other b r p v
  wet_same = rw (laden_on_total s arm b r p v, laden_on_total s other b r p v)

  nlp_same : nlp_line s arm b r p v ≡ nlp_line s other b r p v
  nlp_same = rw (laden_on_part s arm b r p v, laden_on_part s other b r p v)

-- ---- all of them

-- FWD's line at the lower end, the safe aft limit's at the last arm, the others anywhere
pub record Kept (s : Sheet) (f : Seat) (b : Balance) (r p v : ℕ) : Type 0 where
  pub seat : leb 1 p ≡ true
  pub dry : dry_line s f.lower b r p v ≡ true
  pub wet : wet_line s f.lower b r p v ≡ true
  pub nlp : nlp_line s f.lower b r p v ≡ true
  pub fwd : fwd_line s f.lower b r p v ≡ true
  pub aft : aft_line s (last f) b r p v ≡ true

module _ (s : Sheet) (f : Seat) (b : Balance) (r p v : ℕ) where
  at_arm : kept_at s f b r p v ≡ true → (d : ℕ) → d ≤ travel f → Hold s (arm_at f d) b r p v
  unfolding kept_at
  at_arm e d h = lines_hold s (arm_at f d) b r p v (at_every_arm f (λ arm. keeps_at s arm b r p v) e d h)

  pub kept-ends : kept_at s f b r p v ≡ true → Kept s f b r p v
  kept-ends e =
      let low : Hold s f.lower b r p v = rw (arm_at_none f) at (at_arm e 0 (omega arith)) in
      record {
        seat = low.seat;
        dry = low.dry;
        wet = low.wet;
        nlp = low.nlp;
        fwd = low.fwd;
        aft = (at_arm e (travel f) (omega arith)).aft;
      }

  pub ends-kept : Kept s f b r p v → kept_at s f b r p v ≡ true
  unfolding kept_at
  ends-kept k =
      every_arm_lem f (λ arm. keeps_at s arm b r p v)
      (λ d h.
      hold_lines s (arm_at f d) b r p v
      (record {
        seat = k.seat;
        dry = dry_same s (arm_at f d) f.lower b r p v ∙ k.dry;
        wet = wet_same s (arm_at f d) f.lower b r p v ∙ k.wet;
        nlp = nlp_same s (arm_at f d) f.lower b r p v ∙ k.nlp;
        fwd = fwd_further s f b r p v 0 d (omega arith) (rw (arm_at_none f) k.fwd);
        aft = aft_nearer s f b r p v d (travel f) h k.aft;
      }))

  -- the two ends decide
  pub ends_decide : le_z f.lower f.higher ≡ true → kept_at s f b r p v ≡ (keeps_at s f.lower b r p v && keeps_at s f.higher b r p v)
  ends_decide o =
      let low = keeps_at s f.lower b r p v in
      let high = keeps_at s f.higher b r p v in
      same (kept_at s f b r p v) (low && high)
      (λ e.
      both low high
      (hold_lines s f.lower b r p v (rw (arm_at_none f) at (at_arm e 0 (omega arith))))
      (hold_lines s f.higher b r p v (rw (last_is f o) at (at_arm e (travel f) (omega arith)))))
      (λ e.
      let l = lines_hold s f.lower b r p v (left low high e) in
      let h = lines_hold s f.higher b r p v (right low high e) in
      ends-kept (record { seat = l.seat; dry = l.dry; wet = l.wet; nlp = l.nlp; fwd = l.fwd; aft = rw (last_is f o) h.aft }))

  -- six tests in one
  pub kept_is : kept_at s f b r p v ≡ (leb 1 p && (dry_line s f.lower b r p v && (wet_line s f.lower b r p v && (nlp_line s f.lower b r p v && (fwd_line s f.lower b r p v && (aft_line s (last f) b r p v && true))))))
  kept_is =
      let dry = dry_line s f.lower b r p v in
      let wet = wet_line s f.lower b r p v in
      let nlp = nlp_line s f.lower b r p v in
      let fwd = fwd_line s f.lower b r p v in
      let aft = aft_line s (last f) b r p v in
      same (kept_at s f b r p v) (leb 1 p && (dry && (wet && (nlp && (fwd && (aft && true))))))
      (λ e. let k = kept-ends e in rw (k.seat, k.dry, k.wet, k.nlp, k.fwd, k.aft))
      (λ e.
      let e₁ = right (leb 1 p) _ e in
      let e₂ = right dry _ e₁ in
      let e₃ = right wet _ e₂ in
      let e₄ = right nlp _ e₃ in
      ends-kept (record { seat = left (leb 1 p) _ e; dry = left dry _ e₁; wet = left wet _ e₂; nlp = left nlp _ e₃; fwd = left fwd _ e₄; aft = left aft true (right fwd _ e₄) }))
