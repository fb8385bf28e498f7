-- `sheet::bad_rows` meets its contract: a step that passed its test is not 0, so that the rows can be counted, and the tests are
-- the definition's. Assumes nothing.
use Rattle.std.proofs.Common.{◌≡◌, true, ◌&&◌, rules, arith}
use Rattle.laws.specs.Tests.{left, right}
use Rattle.paper.specs.Refusals.{is_step_to, bad_rows}
use Rattle.sheet.proofs.Laws.{ranges, stepped}
use Rattle.sheet.proofs.bad_rows.Goals as goal

pub rows-requires : goal.rows-requires
rows-requires c =
    let s = c.args.s in
    let front = is_step_to 500000 s.front in
    let rear = is_step_to 500000 s.rear in
    let water = is_step_to 2000000 s.water in
    let tested : (front && rear && water) ≡ true = search rules in
    omega (
      arith,
      ranges c.requires,
      stepped 500000 s.rear (right front rear (left (front && rear) water tested)),
      stepped 2000000 s.water (right (front && rear) water tested),
    )

pub returns : goal.returns
unfolding bad_rows
returns c = search rules
