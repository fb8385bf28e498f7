-- `InForce::moved` meets its contract: one condition, and its number. Assumes nothing.
use Rattle.std.proofs.Common.{sym, ◌∙◌}
use Rattle.paper.specs.Refusals.{first_number}
use Rattle.seat.proofs.InForce.moved.Goals as goal

pub returns-then-bad_ends-clause-number : goal.returns-then-bad_ends-clause-number
unfolding first_number
returns-then-bad_ends-clause-number c = simp (sym c.bad_ends.ensures ∙ c.if-bad_ends.true)

pub returns-clause-number : goal.returns-clause-number
unfolding first_number
returns-clause-number c = simp (sym c.bad_ends.ensures ∙ c.if-bad_ends.false)
