-- `front::placard` meets its contract: what stands is what stands in the list that the buffer holds. Assumes nothing.
use Rattle.std.proofs.Common.{◌≡◌, ◌∙◌, Result, Err, rules}
use Rattle.paper.specs.declared.Refusal.{Refusal}
use Rattle.paper.specs.declared.Placard.{Placard}
use Rattle.front.proofs.Answers.{placard_twelve, placard_held}
use Rattle.front.proofs.placard.Goals as goal

pub returns-in_err-held : goal.returns-in_err-held
returns-in_err-held c =
    let told : ◌≡◌ {A = Result Placard Refusal} c.from_residual.result (Err c.in_err-held.field-0.0) = search rules in
    placard_twelve _ _ _ _ told c.in_err-held.ensures

pub returns : goal.returns
returns c =
    let f = c.in_ok-held.ensures in
    c.answer.ensures f.0 f.2.stands ∙ placard_held _ _ f.0 f.1
