-- `line::eighths` meets its contract: each lane becomes two, and there is room for both. Assumes nothing.
use native.Mathlib.Omega.{arith}
use Rattle.line.proofs.Lanes.{packed-room, packed_less, packed_two, tens}
use Rattle.line.proofs.eighths.Goals as goal

pub by_ten-d-requires : goal.by_ten-d-requires
by_ten-d-requires c = omega (arith, packed-room tens c.requires)

pub overflow_mul-result : goal.overflow_mul-result
overflow_mul-result c =
    let less = packed_less tens c.requires c.by_ten-d.result (c.by_ten-d.ensures c.requires) in
    omega (arith, less)

pub overflow_sub-result : goal.overflow_sub-result
overflow_sub-result c = packed_less tens c.requires c.by_ten-d.result (c.by_ten-d.ensures c.requires)

pub overflow_mul-result-2 : goal.overflow_mul-result-2
overflow_mul-result-2 c = omega (arith, packed-room tens c.requires)

pub overflow_add-result : goal.overflow_add-result
overflow_add-result c =
    let less = packed_less tens c.requires c.by_ten-d.result (c.by_ten-d.ensures c.requires) in
    omega (arith, less, packed-room tens c.requires)

pub returns : goal.returns
returns c =
    let less = packed_less tens c.requires c.by_ten-d.result (c.by_ten-d.ensures c.requires) in
    (omega (arith, less, packed-room tens c.requires), λ l. packed_two tens l c.by_ten-d.result (c.by_ten-d.ensures l))
