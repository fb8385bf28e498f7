-- The lines of limits of a seat are half-planes of front load and water, for every sheet, every seat and every balance: FWD's at
-- the lower end, the safe aft limit's at the last arm. Assumes nothing.
use mathlib.Core.Path.{◌≡◌, sym, ◌∙◌}
use mathlib.Core.Bool.{Bool, true, false, cond, ◌||◌}
use mathlib.Core.List.{List, [], ◌∷◌}
use Prim.Native.Nat.{ℕ, ◌+◌, ◌*◌}
use native.Mathlib.Omega.{arith}
use lib.Dec.{leb, eqb}
use borrow.Author.Tests.{le-leb}
use Rattle.paper.specs.declared.Sheet.{Sheet}
use Rattle.paper.specs.declared.Seat.{Seat}
use Rattle.paper.specs.Record.{Balance}
use Rattle.planes.specs.Plane.{HalfPlane, holds, all_hold, kept_at, Says}
use Rattle.planes.proofs.Lines.{Parts, parts_of, parts_of_lem, halves, safe_up, safe_down, fwd_low, fwd_high, aft_low, aft_high, weight_line, part-line, fwd_line_lem, aft_line_lem}
use Rattle.planes.proofs.Arms.{last, kept_is}

-- ---- every line as a half-plane: first of loads in half grams, as the balance is

-- no limit
abbrev pub no_limit : HalfPlane
no_limit = record { alpha0 = 0; alpha1 = 0; beta = 0; gamma0 = 0; gamma1 = 0; delta = 0 }

-- a weight with the front load, and with the water as often as `wet` says, is at most another
abbrev pub weight_plane : ℕ → ℕ → ℕ → HalfPlane
weight_plane wet weight most = record { alpha0 = most; alpha1 = 0; beta = 0; gamma0 = weight; gamma1 = wet; delta = 1 }

abbrev pub fwd_plane : Parts → ℕ → HalfPlane
fwd_plane q r =
    record {
      alpha0 = fwd_high q r 0 0;
      alpha1 = q.water.up + q.fwd.down;
      beta = q.front.up + q.fwd.down;
      gamma0 = fwd_low q r 0 0;
      gamma1 = q.water.down + q.fwd.up;
      delta = q.front.down + q.fwd.up;
    }

abbrev pub aft_plane : Parts → ℕ → HalfPlane
aft_plane q r =
    record {
      alpha0 = aft_high q r 0 0;
      alpha1 = 20 * q.water.down + safe_up q;
      beta = 20 * q.front.down + safe_up q;
      gamma0 = aft_low q r 0 0;
      gamma1 = 20 * q.water.up + safe_down q;
      delta = 20 * q.front.up + safe_down q;
    }

-- ---- the half-planes of loads in grams

-- somebody is in the front seat: the load is one gram or more, whatever the water
abbrev pub occupied_plane : HalfPlane
occupied_plane = record { alpha0 = 0; alpha1 = 0; beta = 1; gamma0 = 1; gamma1 = 0; delta = 0 }

-- each gram counts as two halves
abbrev pub in_grams : HalfPlane → HalfPlane
in_grams l =
    record {
      alpha0 = l.alpha0;
      alpha1 = 2 * l.alpha1;
      beta = 2 * l.beta;
      gamma0 = l.gamma0;
      gamma1 = 2 * l.gamma1;
      delta = 2 * l.delta;
    }

-- the lines of limits with rear load r
unfoldable pub planes_of : Sheet → Seat → Balance → ℕ → List HalfPlane
planes_of s f b r =
    let q = parts_of s f.lower b in
    occupied_plane ∷
    in_grams (weight_plane 0 (q.total.up + 2 * r) (2 * s.dry + q.total.down)) ∷
    in_grams (weight_plane 1 (q.total.up + 2 * r) (2 * s.wet + q.total.down)) ∷
    cond (eqb s.nlp 0) no_limit (in_grams (weight_plane 0 (q.non_lifting.up + 2 * r) (2 * s.nlp + q.non_lifting.down))) ∷
    in_grams (fwd_plane q r) ∷
    in_grams (aft_plane (parts_of s (last f) b) r) ∷ []

-- an order of what a half-plane's two ends are
pub holds_test : (l : HalfPlane) (p v m n : ℕ) → m ≡ l.gamma0 + v * l.gamma1 + l.delta * p → n ≡ l.alpha0 + v * l.alpha1 + l.beta * p → leb m n ≡ holds l p v
unfolding holds
holds_test l p v m n e f = rw (e, f)

unless : (t u : Bool) (l : HalfPlane) (p v : ℕ) → u ≡ holds l p v → (t || u) ≡ holds (cond t no_limit l) p v
unfolding holds
unless true u l p v e = sym (le-leb (0 + v * 0 + 0 * p) (0 + v * 0 + 0 * p) (omega arith))
unless false u l p v e = e

-- every sheet, every seat and every balance: to keep the limits at every arm is to keep six half-planes
pub keeps_planes : (s : Sheet) (f : Seat) (b : Balance) (r : ℕ) → Says (planes_of s f b r) (kept_at s f b r)
unfolding all_hold planes_of
keeps_planes s f b r p v =
    let q = parts_of s f.lower b in
    let o = parts_of_lem s f.lower b in
    let far = parts_of s (last f) b in
    let t = q.total in
    let n = q.non_lifting in
    let dry = in_grams (weight_plane 0 (t.up + 2 * r) (2 * s.dry + t.down)) in
    let wet = in_grams (weight_plane 1 (t.up + 2 * r) (2 * s.wet + t.down)) in
    let nlp = in_grams (weight_plane 0 (n.up + 2 * r) (2 * s.nlp + n.down)) in
    kept_is s f b r p v
    ∙ rw (
      holds_test occupied_plane p v 1 p (omega arith) (omega arith),
      weight_line s f.lower b q o r p 0 s.dry ∙ holds_test dry p v (halves q r p 0) (2 * s.dry + t.down) (omega arith) (omega arith),
      weight_line s f.lower b q o r p v s.wet ∙ holds_test wet p v (halves q r p v) (2 * s.wet + t.down) (omega arith) (omega arith),
      unless (eqb s.nlp 0) _ nlp p v (part-line s f.lower b q o r p v s.nlp ∙ holds_test nlp p v (n.up + 2 * (p + r)) (2 * s.nlp + n.down) (omega arith) (omega arith)),
      fwd_line_lem s f.lower b q o r p v ∙ holds_test (in_grams (fwd_plane q r)) p v (fwd_low q r p v) (fwd_high q r p v) (omega arith) (omega arith),
      aft_line_lem s (last f) b far (parts_of_lem s (last f) b) r p v ∙ holds_test (in_grams (aft_plane far r)) p v (aft_low far r p v) (aft_high far r p v) (omega arith) (omega arith),
    )
