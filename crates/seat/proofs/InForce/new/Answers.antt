-- `InForce::new` meets its contract: an accepted sheet's front arm twice is in order. Assumes nothing.
use Rattle.std.proofs.Common.{rules, sym}
use Rattle.paper.proofs.Seats.{fixed_ends}
use Rattle.seat.proofs.InForce.new.Goals as goal

pub invariant_of-result-clause-accepted : goal.invariant_of-result-clause-accepted
invariant_of-result-clause-accepted c = sym c.in_ok-check.ensures

pub invariant_of-result-clause-in_order : goal.invariant_of-result-clause-in_order
invariant_of-result-clause-in_order c =
    let ends = fixed_ends c.args.sheet (sym c.in_ok-check.ensures) in search rules
