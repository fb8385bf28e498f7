-- `front::equipment` meets its contract: what is found in the front is the equipment of the list that the buffer holds. Assumes
-- nothing.
use Rattle.std.proofs.Common.{◌≡◌, ℕ, ◌∙◌, Result, Err, rules}
use Rattle.paper.specs.declared.Refusal.{Refusal}
use Rattle.front.specs.Front.{held_in}
use Rattle.front.proofs.Answers.{no_front, front_there, no_equipment, some_equipment, equipment_twelve, equipment_held}
use Rattle.front.proofs.equipment.Goals as goal

pub returns-in_err-file : goal.returns-in_err-file
returns-in_err-file c =
    let a = c.args in
    let told : ◌≡◌ {A = Result ℕ Refusal} c.from_residual.result (Err c.in_err-file.field-0.0) = search rules in
    equipment_twelve _ a.arms.now a.weights.now a.nonlifting.now _ _ told (no_front _ _ _ c.front.ensures c.in_err-file.ensures.value)

pub returns-in_err-found : goal.returns-in_err-found
unfolding held_in
returns-in_err-found c =
    let a = c.args in
    let told : ◌≡◌ {A = Result ℕ Refusal} c.from_residual-in_err-found.result (Err c.in_err-found.field-0.0) = search rules in
    let there = front_there _ _ _ c.front.ensures c.in_ok-file.ensures.value in
    equipment_twelve _ a.arms.now a.weights.now a.nonlifting.now _ _ told (no_equipment _ c.found.result _ (rw there at c.found.ensures) c.in_err-found.ensures.value)

pub returns : goal.returns
unfolding held_in
returns c =
    let a = c.args in
    let there = front_there _ _ _ c.front.ensures c.in_ok-file.ensures.value in
    let f = some_equipment _ c.found.result c.in_ok-found.found (rw there at c.found.ensures) c.in_ok-found.ensures.value in
    c.answer.ensures f.0 f.2.weighed (c.equipment.ensures ∙ f.2.fittings) ∙ equipment_held _ a.arms.now a.weights.now a.nonlifting.now f.0 f.1
