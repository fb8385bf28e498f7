-- `columns::put` meets its contract. The loop's invariant: the rows so far stand at the front of the columns. Assumes nothing.
use Rattle.std.proofs.Common.{◌≡◌, take}
use Rattle.paper.specs.Equipment.{arm_column, weight_column, nonlifting_column}
use Rattle.paper.specs.Answers.{over}
use Rattle.columns.proofs.put.Given as goal

abbrev pub invariant-loop-i : goal.invariant-loop-i
invariant-loop-i l =
    (l.arms ≡ over (arm_column (take l.i l.fn.items)) l.fn.arms) × (l.weights ≡ over (weight_column (take l.i l.fn.items)) l.fn.weights) × (l.nonlifting ≡ over (nonlifting_column (take l.i l.fn.items)) l.fn.nonlifting)
