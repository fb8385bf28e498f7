-- `reading::bad_reading` meets its contract: each way out by the law of its method. Assumes nothing.
use Rattle.std.proofs.Common.{◌+◌, sym, arith, lt-ltb, le-ltb}
use Rattle.std.proofs.lemmas.Grind.{common_steps}
use Rattle.reading.proofs.Conditions.{p_over, q_over, methods_1_2, method_3, method_4, no_method}
use Rattle.reading.proofs.bad_reading.Goals as goal

pub returns-then-w-gt-MOST : goal.returns-then-w-gt-MOST
returns-then-w-gt-MOST c = sym (p_over _ c.if-w-gt-MOST.true)

pub returns-then-w-gt-MOST-2 : goal.returns-then-w-gt-MOST-2
returns-then-w-gt-MOST-2 c = grind (arith, common_steps, p_over, q_over)

pub returns-then-w : goal.returns-then-w
returns-then-w c =
    let w = c.args.w in
    rw (methods_1_2 w (omega arith) (omega arith) (omega arith) (omega arith), lt-ltb w.p w.q c.if-w.true)

pub returns-else-w : goal.returns-else-w
returns-else-w c =
    let w = c.args.w in
    rw (methods_1_2 w (omega arith) (omega arith) (omega arith) (omega arith), le-ltb w.p w.q c.if-w.false)

pub returns-then-w-2 : goal.returns-then-w-2
returns-then-w-2 c =
    let w = c.args.w in
    rw (methods_1_2 w (omega arith) (omega arith) (omega arith) (omega arith), lt-ltb w.p w.q c.if-w-2.true)

pub returns-else-w-2 : goal.returns-else-w-2
returns-else-w-2 c =
    let w = c.args.w in
    rw (methods_1_2 w (omega arith) (omega arith) (omega arith) (omega arith), le-ltb w.p w.q c.if-w-2.false)

pub returns-then-w-lt1 : goal.returns-then-w-lt1
returns-then-w-lt1 c =
    let w = c.args.w in
    rw (method_3 w (omega arith) (omega arith) (omega arith), lt-ltb (w.p + w.q) 1 c.if-w-lt1.true)

pub returns-else-w-lt1 : goal.returns-else-w-lt1
returns-else-w-lt1 c =
    let w = c.args.w in
    rw (method_3 w (omega arith) (omega arith) (omega arith), le-ltb (w.p + w.q) 1 c.if-w-lt1.false)

pub returns-in-4 : goal.returns-in-4
returns-in-4 c = sym (method_4 c.args.w (omega arith) (omega arith) c.in-4.is)

pub returns-in_default : goal.returns-in_default
returns-in_default c = sym (no_method c.args.w (λ h. omega arith))
