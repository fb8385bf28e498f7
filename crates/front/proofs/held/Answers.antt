-- `front::held` meets its contract: what is found in the front is what the buffer holds. Assumes nothing.
use Rattle.std.proofs.Common.{◌≡◌, Result, Err, rules}
use Rattle.paper.specs.declared.Refusal.{Refusal}
use Rattle.stored.specs.declared.Contents.{Contents}
use Rattle.front.specs.Front.{held_in}
use Rattle.front.proofs.Answers.{no_front, front_there, told}
use Rattle.front.proofs.held.Goals as goal

pub returns-in_err-file : goal.returns-in_err-file
returns-in_err-file c =
    let told : ◌≡◌ {A = Result Contents Refusal} c.from_residual.result (Err c.in_err-file.field-0.0) = search rules in
    rw told (no_front _ _ _ c.front.ensures c.in_err-file.ensures.value)

pub returns : goal.returns
unfolding held_in
returns c =
    let there = front_there _ _ _ c.front.ensures c.in_ok-file.ensures.value in
    told _ c.survey.result _ (rw there at c.survey.ensures) c.ok_or-2.ensures.value
