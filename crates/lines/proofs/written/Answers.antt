-- `lines::written`: what the call leaves where it is refused.
use Rattle.std.proofs.Common.{rules, ◌≡◌, refl, Err}
use Rattle.lines.proofs.written.Goals as goal

pub returns-in_err-n : goal.returns-in_err-n
returns-in_err-n g c =
    let told : c.from_residual.result ≡ Err c.in_err-n.field-0.0 = search rules in
    rw told (_, record { shown = _; lent = _; shows = (refl, refl); left = _; met = c.in_err-n.ensures; leaves = refl })
