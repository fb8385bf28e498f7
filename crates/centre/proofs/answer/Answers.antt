-- `centre::answer` meets its contract: what stands is the balance of the list, or there is none. Assumes nothing.
use mir.Syntax.{w64}
use mathlib.Core.Path.{◌≡◌, sym, ◌∙◌, ap}
use mir.Facts.{to_z-of_z}
use Rattle.std.proofs.Common.{rules}
use Rattle.std.specs.Prelude.{Result, Err}
use Rattle.paper.specs.declared.Refusal.{Refusal}
use Rattle.paper.specs.declared.CentreOfGravity.{CentreOfGravity}
use Rattle.balance.specs.Balance.{plain}
use Rattle.judge.specs.Standing.{Stands, stands_in, balance_in}
use Rattle.judge.proofs.Judging.{missing}
use Rattle.centre.proofs.Answers.{centre_none, centre_some}
use Rattle.centre.proofs.answer.Goals as goal

pub returns-in_err-b : goal.returns-in_err-b
unfolding stands_in
returns-in_err-b c es w =
    let m = missing c.args.standing.now.balance _ _ c.in_err-b.ensures.value in
    let e = sym (ap (λ (o : Stands). o.balance) w) ∙ ap balance_in m.0 in
    let told : ◌≡◌ {A = Result CentreOfGravity Refusal} c.from_residual.result (Err c.in_err-b.field-0.0) = search rules in
    told ∙ ap (λ (r : Refusal). Err r) m.1 ∙ sym (centre_none es e)

pub returns : goal.returns
unfolding stands_in
returns c es w =
    let e = sym (ap (λ (o : Stands). o.balance) w) ∙ ap balance_in c.in_ok-b.ensures.ok_part in
    rw (to_z-of_z {w = w64} (record { sfits = c.value.type_inv }), to_z-of_z {w = w64} (record { sfits = c.centre.type_inv }), c.value.ensures, c.centre.ensures)
    (sym (centre_some es (plain c.in_ok-b.b) e))
