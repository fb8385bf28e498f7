-- `page::row_count` meets its contract: the sheet was accepted, so that its rows can be counted and are few. Assumes nothing.
use native.Mathlib.Omega.{arith}
use Rattle.sheet.proofs.Accepted.{accepted-sheet}
use Rattle.page.proofs.row_count.Goals as goal

pub rows-requires : goal.rows-requires
rows-requires c =
    let x = c.args.force.now in
    let a = accepted-sheet x.sheet x.accepted in
    omega (arith, a.steps.rear.0, a.ranges.rear, a.steps.water.0, a.ranges.water)

pub returns : goal.returns
returns c =
    let x = c.args.force.now in
    let a = accepted-sheet x.sheet x.accepted in
    (c.rows.ensures, omega (arith, a.steps.rows))
