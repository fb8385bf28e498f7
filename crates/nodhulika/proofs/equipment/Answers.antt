-- `nodhulika::equipment` meets its contract: what `front::equipment` answers, and its count. Assumes nothing.
use Rattle.std.proofs.Common.{◌≡◌, rules}
use Rattle.paper.specs.Numbers.{number_in, number_of}
use Rattle.front.specs.Front.{held_in}
use Rattle.nodhulika.proofs.Into.{equipment_by}
use Rattle.nodhulika.proofs.equipment.Goals as goal

pub returns-in_err-count : goal.returns-in_err-count
returns-in_err-count c =
    let a = c.args in
    let told : number_in c.from_residual.result ≡ number_of c.in_err-count.field-0.0 = search rules in
    rw told (equipment_by (held_in a.buffer.now) a.arms.now a.weights.now a.nonlifting.now a.count.now _ _ _ _ c.in_err-count.ensures)

pub returns : goal.returns
returns c =
    let a = c.args in
    equipment_by (held_in a.buffer.now) a.arms.now a.weights.now a.nonlifting.now a.count.now _ _ _ _ c.in_ok-count.ensures
