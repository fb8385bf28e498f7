-- `Front::new` meets its contract: what the calls say of each end, put together; each end is an arm, read back from its bits.
-- Assumes nothing.
use mir.Syntax.{w64}
use borrow.Author.Rules.{rules}
use mir.Val.{SFits}
use mir.Facts.{to_z-of_z}
use Rattle.paper.proofs.Seats.{ends_arms}
use Rattle.limits.proofs.Front.new.Goals as goal

pub step_at-lower-requires : goal.step_at-lower-requires
step_at-lower-requires c =
    let x = c.args.arms.force in
    let fits : SFits w64 x.seat.lower = search rules in
    rw (to_z-of_z fits) (ends_arms x.seat x.in_order).0

pub step_at-higher-requires : goal.step_at-higher-requires
step_at-higher-requires c =
    let x = c.args.arms.force in
    let fits : SFits w64 x.seat.higher = search rules in
    rw (to_z-of_z fits) (ends_arms x.seat x.in_order).1

pub invariant_of-result : goal.invariant_of-result
invariant_of-result c =
    let f = c.args.arms.force.seat in
    let lower : SFits w64 f.lower = search rules in
    let higher : SFits w64 f.higher = search rules in
    record {
      steps_are = c.steps-steps.ensures;
      lower_is = rw (to_z-of_z lower) at c.step_at-lower.ensures;
      higher_is = rw (to_z-of_z higher) at c.step_at-higher.ensures;
    }
