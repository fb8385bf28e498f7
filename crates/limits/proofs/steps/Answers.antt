-- `limits::steps` meets its contract: both ends by a division. Assumes nothing.
use Prim.Native.Nat.{◌<◌}
use Rattle.sheet.proofs.Accepted.{accepted-sheet}
use Rattle.seat.specs.declared.InForce.{InForce}
use Rattle.limits.proofs.Laws.{is_load_lem}
use Rattle.limits.proofs.steps.Goals as goal

step_in : (x : InForce) → 0 < x.sheet.front.step
step_in x = (accepted-sheet x.sheet x.accepted).steps.front.0

pub div_ceil-requires : goal.div_ceil-requires
div_ceil-requires c = step_in c.args.force.now

pub nonzero_div-result : goal.nonzero_div-result
nonzero_div-result c = step_in c.args.force.now

pub returns : goal.returns
returns c = let x = c.args.force.now in rw (c.div_ceil.ensures, c.max.ensures) (is_load_lem x.sheet (step_in x))
