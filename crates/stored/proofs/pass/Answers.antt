-- `stored::pass` meets its contract: there is no entry, or its call refuses it, or it is passed. Assumes nothing.
use Rattle.std.proofs.Common.{ap, arith}
use Rattle.paper.specs.Numbers.{code_of}
use Rattle.stored.proofs.Reading.{no_entry, refused_entry, one_passed}
use Rattle.stored.proofs.Judging.{refused_then, added_then, number_there, stands_then}
use Rattle.stored.proofs.pass.Goals as goal

pub returns-in_err-entry : goal.returns-in_err-entry
returns-in_err-entry c xs es n w =
    rw c.from_residual.ensures (no_entry xs es n _ _ _ w c.in_err-entry.ensures.steps.0.0)

pub returns-in_err-ok : goal.returns-in_err-ok
returns-in_err-ok c xs es n w =
    let number = number_there es _ _ c.in_ok-entry.entry _ w.stands c.add.ensures in
    let above = refused_then _ c.in_err-ok.ensures.value in
    rw c.from_residual-in_err-ok.ensures (refused_entry xs es n _ _ _ w _ _ c.in_ok-entry.ensures.steps.0 (omega arith))

pub returns : goal.returns
returns c xs es n w =
    let none = added_then _ _ c.in_ok-ok.ensures.value in
    let number = number_there es _ _ c.in_ok-entry.entry _ w.stands c.add.ensures in
    let stands = stands_then es _ _ c.in_ok-entry.entry _ w.stands c.add.ensures none in
    one_passed xs es n _ _ _ w _ _ c.in_ok-entry.ensures.steps.0 (omega arith) _ stands _ (ap code_of c.in_ok-entry.ensures.steps.1)
