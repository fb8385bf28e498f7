-- `line::quarters` meets its contract: each lane becomes two, and there is room for both. Assumes nothing.
use native.Mathlib.Omega.{arith}
use Rattle.line.proofs.Lanes.{packed-room, packed_less, packed_two, hundreds}
use Rattle.line.proofs.quarters.Goals as goal

pub by_hundred-h-requires : goal.by_hundred-h-requires
by_hundred-h-requires c = omega (arith, packed-room hundreds c.requires)

pub overflow_mul-result : goal.overflow_mul-result
overflow_mul-result c =
    let less = packed_less hundreds c.requires c.by_hundred-h.result (c.by_hundred-h.ensures c.requires) in
    omega (arith, less)

pub overflow_sub-result : goal.overflow_sub-result
overflow_sub-result c = packed_less hundreds c.requires c.by_hundred-h.result (c.by_hundred-h.ensures c.requires)

pub overflow_mul-result-2 : goal.overflow_mul-result-2
overflow_mul-result-2 c = omega (arith, packed-room hundreds c.requires)

pub overflow_add-result : goal.overflow_add-result
overflow_add-result c =
    let less = packed_less hundreds c.requires c.by_hundred-h.result (c.by_hundred-h.ensures c.requires) in
    omega (arith, less, packed-room hundreds c.requires)

pub returns : goal.returns
returns c = λ l. packed_two hundreds l c.by_hundred-h.result (c.by_hundred-h.ensures l)
