-- `Front::with_all` meets its contract: each call's order is one line of the paper, and two lines are all that is left to judge
-- with all of the water. Assumes nothing.
use mathlib.Core.Path.{◌≡◌, sym, ◌∙◌}
use mathlib.Core.Bool.{Bool, true, false, ◌&&◌}
use Prim.Native.Nat.{ℕ, ◌*◌}
use borrow.Author.Rules.{rules}
use native.Mathlib.Omega.{arith}
use lib.Signed.{lt_z}
use mir.Syntax.{w64}
use mir.Val.{SFits}
use Rattle.laws.specs.Tests.{left}
use Rattle.laws.specs.Z.{zs, back}
use Rattle.paper.specs.Rows.{up_to}
use Rattle.paper.proofs.Seats.{ends_of_lem}
use Rattle.planes.specs.Plane.{kept_at}
use Rattle.planes.proofs.Arms.{last_is}
use Rattle.planes.proofs.Ends.{ends_ahead, ends-behind}
use Rattle.sheet.proofs.Laws.{Ranges}
use Rattle.sheet.proofs.Accepted.{accepted-sheet}
use Rattle.solver.specs.Span.{within}
use Rattle.limits.specs.Seats.{in_seat, weight_test, fwd_test, aft_test}
use Rattle.limits.proofs.Laws.{weight_line, fwd_line_lem, aft_line_lem, all-kept}
use Rattle.limits.proofs.Front.with_all.Goals as goal

pub overflow_mul-s : goal.overflow_mul-s
overflow_mul-s c =
    let x = c.args.self.now.arms.force in
    omega (arith, (accepted-sheet x.sheet x.accepted).ranges.wet)

pub returns-then-s : goal.returns-then-s
returns-then-s c =
    let q = c.args.self.now in
    let x = c.args.x.now in
    let span = c.args.span in
    let s = q.arms.force.sheet in
    let f = q.arms.force.seat in
    let y = q.lower in
    let ranges : Ranges s = (accepted-sheet s q.arms.force.accepted).ranges in
    let fwd : SFits w64 s.fwd = search rules in
    let water : SFits w64 s.water.arm = search rules in
    let ahead : lt_z s.water.arm s.fwd ≡ true = omega (arith, zs, back fwd, back water) in
    let line : ℕ → Bool = λ k. fwd_test x y k in
    let wets : ℕ → Bool = λ k. weight_test x.weight y k (2 * s.wet) in
    let e : (k : ℕ) → within c.fwd_limit.result k ≡ ((within span k && wets k) && line k) =
    λ k. rw (c.weight_limit-wet.ensures k) at (c.fwd_limit.ensures k) in (
      λ k h. left (within span k) (wets k) (left (within span k && wets k) (line k) (sym (e k) ∙ h)),
      λ g rear w h none k.
          let p = k * s.front.step in
          rw (none k) at (e k)
          ∙ all-kept (in_seat s k) (kept_at s f g rear p 0) (up_to (kept_at s f g rear p) w) (wets k) (line k)
          (rw (← weight_line s f.lower g rear w x y h q.lower_is.load k s.wet, ← fwd_line_lem s f.lower g rear w x y h q.lower_is.load k) (ends_ahead s f g rear p w ahead ranges.limits)),
    )

pub returns : goal.returns
returns c =
    let q = c.args.self.now in
    let x = c.args.x.now in
    let span = c.args.span in
    let s = q.arms.force.sheet in
    let f = q.arms.force.seat in
    let y = q.lower in
    let z = q.higher in
    let fwd : SFits w64 s.fwd = search rules in
    let water : SFits w64 s.water.arm = search rules in
    let behind : lt_z s.water.arm s.fwd ≡ false = omega (arith, zs, back fwd, back water) in
    let line : ℕ → Bool = λ k. aft_test x z k in
    let wets : ℕ → Bool = λ k. weight_test x.weight y k (2 * s.wet) in
    let e : (k : ℕ) → within c.aft_limit.result k ≡ ((within span k && wets k) && line k) =
    λ k. rw (c.weight_limit-wet.ensures k) at (c.aft_limit.ensures k) in (
      λ k h. left (within span k) (wets k) (left (within span k && wets k) (line k) (sym (e k) ∙ h)),
      λ g rear w h none k.
          let p = k * s.front.step in
          rw (none k) at (e k)
          ∙ all-kept (in_seat s k) (kept_at s f g rear p 0) (up_to (kept_at s f g rear p) w) (wets k) (line k)
          (rw (← weight_line s f.lower g rear w x y h q.lower_is.load k s.wet, ← aft_line_lem s f.higher g rear w x z h q.higher_is.load k) (rw (last_is f (ends_of_lem f q.arms.force.in_order).order) at (ends-behind s f g rear p w behind))),
    )
