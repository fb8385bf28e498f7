-- `numerals::size_of` meets its contract. The loop's invariant: n is the number of the digits that are read. Assumes nothing.
use native.Mathlib.Omega.{arith}
use lib.ListN.{take, length-take}
use Rattle.numerals.proofs.Sizes.{read_none, read_room, read_one, read_all}
use Rattle.numerals.proofs.size_of.Goals as goal

pub loop-x-init : goal.loop-x-init
loop-x-init c = read_none _

pub overflow_mul-n : goal.overflow_mul-n
overflow_mul-n c =
    let l = c.loop-x in
    omega (arith, read_room (take c.min.result c.args.s.now) l.n l.x-index l.invariant (omega arith) (omega (arith, length-take c.min.result c.args.s.now)))

pub overflow_add-n : goal.overflow_add-n
overflow_add-n c =
    let l = c.loop-x in
    omega (arith, read_room (take c.min.result c.args.s.now) l.n l.x-index l.invariant (omega arith) (omega (arith, length-take c.min.result c.args.s.now)))

pub loop-x-preserved : goal.loop-x-preserved
loop-x-preserved c =
    let l = c.loop-x in
    read_one (take c.min.result c.args.s.now) l.n l.x-index c.digit.result l.invariant (omega arith) c.digit.ensures.0

pub returns : goal.returns
returns c =
    let l = c.loop-x in
    read_all c.args.s.now l.n c.min.result l.x-index c.min.ensures l.invariant (omega arith)
