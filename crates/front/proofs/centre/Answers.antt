-- `front::centre` meets its contract: what stands is what stands in the list that the buffer holds. Assumes nothing.
use Rattle.std.proofs.Common.{◌≡◌, ◌∙◌, Result, Err, rules}
use Rattle.paper.specs.declared.Refusal.{Refusal}
use Rattle.paper.specs.declared.CentreOfGravity.{CentreOfGravity}
use Rattle.front.proofs.Answers.{centre_twelve, centre_held}
use Rattle.front.proofs.centre.Goals as goal

pub returns-in_err-held : goal.returns-in_err-held
returns-in_err-held c =
    let told : ◌≡◌ {A = Result CentreOfGravity Refusal} c.from_residual.result (Err c.in_err-held.field-0.0) = search rules in
    centre_twelve _ _ _ told c.in_err-held.ensures

pub returns : goal.returns
returns c =
    let f = c.in_ok-held.ensures in
    c.answer.ensures f.0 f.2.stands ∙ centre_held _ f.0 f.1
