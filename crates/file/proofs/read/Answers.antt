-- `file::read` meets its contract: by what was found. Assumes nothing.
use Rattle.std.proofs.Common.{◌≡◌, ap, ◌∙◌, rules, Result, Err}
use Rattle.paper.specs.declared.Refusal.{Refusal}
use Rattle.judge.proofs.Judging.{missing}
use Rattle.record.proofs.Calls.{Answer}
use Rattle.file.proofs.Reading.{answers}
use Rattle.file.proofs.read.Goals as goal

pub returns-in_err-r : goal.returns-in_err-r
returns-in_err-r c =
    let r = c.args.r.now in
    let m = missing c.found.result _ _ c.in_err-r.ensures.value in
    let told : ◌≡◌ {A = Result (Unit {0}) Refusal} c.from_residual.result (Err c.in_err-r.field-0.0) = search rules in
    let refused = rw m.0 at (answers c.found.result r c.args.s.now c.found.ensures) in
    let same : ◌≡◌ {A = Answer} (c.from_residual.result, r) _ = ap (λ (k : Result (Unit {0}) Refusal). (k, r)) (told ∙ ap (λ (f : Refusal). Err f) m.1) in
    same ∙ refused

pub returns : goal.returns
returns c =
    rw c.in_ok-r.ensures.ok_part at (answers c.found.result c.args.r.now c.args.s.now c.found.ensures)
