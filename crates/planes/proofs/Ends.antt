-- With all of the water aboard two lines are left to judge once every line holds with none of it: that of WET, and one of the
-- moment's. Water works against FWD where its arm lies ahead of it, and else only against the safe aft limit. Assumes nothing.
use mathlib.Core.Path.{◌≡◌, sym, ◌∙◌}
use mathlib.Core.Bool.{Bool, true, false, ◌&&◌}
use Prim.Native.Nat.{ℕ, ◌+◌, ◌*◌, ◌≤◌}
use native.Mathlib.Nat.{mul-le-mul_left}
use native.Mathlib.Omega.{arith}
use lib.IntN.{ℤ}
use lib.Signed.{lt_z}
use borrow.Author.Tests.{leb-true, le-leb}
use Rattle.laws.specs.Tests.{same, both, left, right}
use Rattle.laws.specs.Z.{up, dn, hyp_lt_z, hyp_nlt_z}
use Rattle.paper.specs.declared.Sheet.{Sheet}
use Rattle.paper.specs.declared.Seat.{Seat}
use Rattle.paper.specs.Record.{Balance}
use Rattle.paper.specs.Rows.{up_to}
use Rattle.planes.specs.Plane.{kept_at}
use Rattle.planes.proofs.Lines.{parts_of, parts_of_lem, fwd_low, fwd_high, aft_low, aft_high, fwd_line_lem, aft_line_lem, laden-part, wet_line, nlp_line, fwd_line, aft_line}
use Rattle.planes.proofs.Arms.{last, Kept, kept-ends, ends-kept}
use Rattle.planes.proofs.HalfPlanes.{planes_of, keeps_planes}
use Rattle.planes.proofs.Convex.{both_ends}

module _ (s : Sheet) (arm : ℤ) (b : Balance) (r p w : ℕ) where
  -- a line of the moment that water does not work against holds with all of it where it holds with none
  fwd_stays : up s.fwd + dn s.water.arm ≤ up s.water.arm + dn s.fwd → fwd_line s arm b r p 0 ≡ true → fwd_line s arm b r p w ≡ true
  fwd_stays h e =
      let q = parts_of s arm b in
      let o = parts_of_lem s arm b in
      let k = leb-true (fwd_low q r p 0) (fwd_high q r p 0) (sym (fwd_line_lem s arm b q o r p 0) ∙ e) in
      let m : w * (up s.fwd + dn s.water.arm) ≤ w * (up s.water.arm + dn s.fwd) = mul-le-mul_left w h in
      fwd_line_lem s arm b q o r p w ∙ le-leb (fwd_low q r p w) (fwd_high q r p w) (omega arith)

  aft_stays : 20 * up s.water.arm + 19 * dn s.aft + dn s.fwd ≤ 20 * dn s.water.arm + 19 * up s.aft + up s.fwd → aft_line s arm b r p 0 ≡ true → aft_line s arm b r p w ≡ true
  aft_stays h e =
      let q = parts_of s arm b in
      let o = parts_of_lem s arm b in
      let k = leb-true (aft_low q r p 0) (aft_high q r p 0) (sym (aft_line_lem s arm b q o r p 0) ∙ e) in
      let m : w * (20 * up s.water.arm + 19 * dn s.aft + dn s.fwd) ≤ w * (20 * dn s.water.arm + 19 * up s.aft + up s.fwd) = mul-le-mul_left w h in
      aft_line_lem s arm b q o r p w ∙ le-leb (aft_low q r p w) (aft_high q r p w) (omega arith)

  -- water never counts as non-lifting
  nlp_stays : nlp_line s arm b r p 0 ≡ true → nlp_line s arm b r p w ≡ true
  nlp_stays e = rw (laden-part s arm b r p w ∙ sym (laden-part s arm b r p 0)) e

module _ (s : Sheet) (f : Seat) (b : Balance) (r p w : ℕ) where
  by_ends : (x : Bool) → (Kept s f b r p w → x ≡ true) → (Kept s f b r p 0 → x ≡ true → (fwd_line s f.lower b r p w ≡ true) × (aft_line s (last f) b r p w ≡ true)) → up_to (kept_at s f b r p) w ≡ (kept_at s f b r p 0 && (wet_line s f.lower b r p w && x))
  by_ends x g h =
      let none = kept_at s f b r p 0 in
      let all = kept_at s f b r p w in
      let wet = wet_line s f.lower b r p w in
      both_ends (kept_at s f b r) (planes_of s f b r) (keeps_planes s f b r) p w
      ∙ same (none && all) (none && (wet && x))
      (λ e. let k = kept-ends s f b r p w (right none all e) in both none (wet && x) (left none all e) (both wet x k.wet (g k)))
      (λ e.
      let n = left none (wet && x) e in
      let a = right none (wet && x) e in
      let k = kept-ends s f b r p 0 n in
      let m = h k (right wet x a) in
      both none all n (ends-kept s f b r p w (record { seat = k.seat; dry = k.dry; wet = left wet x a; nlp = nlp_stays s f.lower b r p w k.nlp; fwd = m.0; aft = m.1 })))

  -- where water lies ahead of FWD
  pub ends_ahead : lt_z s.water.arm s.fwd ≡ true → lt_z s.fwd s.aft ≡ true → up_to (kept_at s f b r p) w ≡ (kept_at s f b r p 0 && (wet_line s f.lower b r p w && fwd_line s f.lower b r p w))
  ends_ahead h k =
      by_ends (fwd_line s f.lower b r p w) (λ l. l.fwd)
      (λ l e. (e, aft_stays s (last f) b r p w (omega (arith, hyp_lt_z s.water.arm s.fwd h, hyp_lt_z s.fwd s.aft k)) l.aft))

  -- and where it does not
  pub ends-behind : lt_z s.water.arm s.fwd ≡ false → up_to (kept_at s f b r p) w ≡ (kept_at s f b r p 0 && (wet_line s f.lower b r p w && aft_line s (last f) b r p w))
  ends-behind h =
      by_ends (aft_line s (last f) b r p w) (λ l. l.aft)
      (λ l e. (fwd_stays s f.lower b r p w (omega (arith, hyp_nlt_z s.water.arm s.fwd h)) l.fwd, e))
