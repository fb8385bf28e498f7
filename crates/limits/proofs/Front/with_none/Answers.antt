-- `Front::with_none` meets its contract: each call's order is one line of the paper. Assumes nothing.
use mathlib.Core.Path.{◌≡◌, ◌∙◌}
use mathlib.Core.Bool.{Bool, ◌&&◌, ◌||◌}
use Prim.Native.Nat.{ℕ, ◌*◌}
use native.Mathlib.Omega.{arith}
use lib.Dec.{leb, eqb}
use Rattle.paper.proofs.Seats.{ends_of_lem}
use Rattle.planes.proofs.Arms.{last_is}
use Rattle.sheet.proofs.Laws.{Ranges}
use Rattle.sheet.proofs.Accepted.{accepted-sheet}
use Rattle.seat.specs.declared.InForce.{InForce}
use Rattle.solver.specs.Span.{within}
use Rattle.limits.specs.Seats.{in_seat, weight_test, fwd_test, aft_test}
use Rattle.limits.proofs.Laws.{first_of, weight_line, nlp_line_lem, fwd_line_lem, aft_line_lem, none_kept}
use Rattle.limits.proofs.Front.with_none.Goals as goal

ranges_of : (x : InForce) → Ranges x.sheet
ranges_of x = (accepted-sheet x.sheet x.accepted).ranges

pub overflow_mul-s : goal.overflow_mul-s
overflow_mul-s c =
    let r = ranges_of c.args.self.now.arms.force in
    omega (arith, r.dry, r.wet)

pub overflow_mul-s-2 : goal.overflow_mul-s-2
overflow_mul-s-2 c = omega (arith, (ranges_of c.args.self.now.arms.force).wet)

pub overflow_mul-s-3 : goal.overflow_mul-s-3
overflow_mul-s-3 c = omega (arith, (ranges_of c.args.self.now.arms.force).nlp)

pub returns : goal.returns
returns c =
    let q = c.args.self.now in
    let x = c.args.x.now in
    let n = c.args.nonlifting in
    let s = q.arms.force.sheet in
    let f = q.arms.force.seat in
    let y = q.lower in
    let z = q.higher in
    let part : ℕ → Bool = λ k. eqb (2 * s.nlp) 0 || weight_test n y k (2 * s.nlp) in
    let e : (k : ℕ) → within c.aft_limit.result k ≡ ((((((in_seat s k && leb 1 (k * s.front.step)) && weight_test x.weight y k (2 * s.dry)) && weight_test x.weight y k (2 * s.wet)) && part k) && fwd_test x y k) && aft_test x z k) =
    λ k.
    rw (c.fwd_limit-span.ensures k, c.non_lifting_limit-span.ensures k, c.weight_limit-span-2.ensures k, c.weight_limit-span.ensures k, q.steps_are k) at (c.aft_limit.ensures k) in (
      λ k. first_of (within c.aft_limit.result k) (in_seat s k) (leb 1 (k * s.front.step)) (weight_test x.weight y k (2 * s.dry)) (weight_test x.weight y k (2 * s.wet)) (part k) (fwd_test x y k) (aft_test x z k) (e k),
      λ b rear h m k.
          e k
          ∙ none_kept s f b rear (k * s.front.step) (in_seat s k) _ _ _ _ _
          (weight_line s f.lower b rear 0 x y h q.lower_is.load k s.dry)
          (weight_line s f.lower b rear 0 x y h q.lower_is.load k s.wet)
          (nlp_line_lem s f.lower b rear 0 x y h q.lower_is.load k n m)
          (fwd_line_lem s f.lower b rear 0 x y h q.lower_is.load k)
          (rw (last_is f (ends_of_lem f q.arms.force.in_order).order) (aft_line_lem s f.higher b rear 0 x z h q.higher_is.load k)),
    )
