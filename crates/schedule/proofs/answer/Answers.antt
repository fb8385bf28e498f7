-- `schedule::answer` meets its contract: what is copied is the schedule of the list. Assumes nothing.
use Rattle.std.proofs.Common.{sym, ap, ◌∙◌, length, arith}
use Rattle.schedule.proofs.Answers.{unweighed, too_short, long_enough}
use Rattle.schedule.proofs.answer.Goals as goal

pub returns-then-not-weighed : goal.returns-then-not-weighed
returns-then-not-weighed c = λ es w k. unweighed es c.args.out.now (sym c.if-not-weighed.true ∙ w)

pub returns-then-out-len : goal.returns-then-out-len
returns-then-out-len c = λ es w k.
    let a = c.args in
    let size = c.len.ensures.value ∙ ap length c.schedule_of-text.ensures in
    too_short es a.items.now a.out.now (sym c.if-not-weighed.false ∙ w) k (omega (arith, size))

pub returns : goal.returns
returns c = λ es w k.
    let a = c.args in
    let size = c.len.ensures.value ∙ ap length c.schedule_of-text.ensures in
    let text = c.as_bytes.ensures.value ∙ c.deref.ensures.0 ∙ c.schedule_of-text.ensures in
    long_enough es a.items.now a.out.now (sym c.if-not-weighed.false ∙ w) k c.as_bytes.result.now c.copy.new.out _ text (omega (arith, size)) c.copy.ensures.0 c.copy.ensures.1
