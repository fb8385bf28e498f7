-- `limits::step_at` meets its contract: the arm by its two sides is that of the load. Assumes nothing.
use Rattle.std.proofs.Common.{◌≡◌, rules, arith}
use Rattle.laws.specs.Sides.{sides_of}
use Rattle.paper.proofs.Units.{arm_range}
use Rattle.sheet.proofs.Accepted.{accepted-sheet}
use Rattle.aboard.proofs.Standing.{sided}
use Rattle.limits.proofs.step_at.Goals.{After-from}
use Rattle.limits.proofs.step_at.Goals as goal

made : (c : After-from) → c.from.result ≡ sides_of c.args.arm
made c = search rules

pub grams_at-requires : goal.grams_at-requires
grams_at-requires c =
    let x = c.args.arms.now.force in
    let e = made (goal.at.grams_at-requires c).After-from in
    (omega (arith, (accepted-sheet x.sheet x.accepted).steps.front.1), rw e (sided c.args.arm (arm_range c.args.arm c.requires)).range)
