-- `lent::add` meets its contract: where the buffer holds a record the entry is put behind it. Assumes nothing.
use Rattle.std.proofs.Common.{◌≡◌, rules}
use Rattle.paper.specs.Numbers.{number_in, number_of}
use Rattle.paper.specs.Journal.{call_of}
use Rattle.lent.proofs.Answers.{none_held}
use Rattle.lent.proofs.add.Goals as goal

pub returns-in_err-found : goal.returns-in_err-found
returns-in_err-found c =
    let a = c.args in
    let told : number_in c.from_residual.result ≡ number_of c.in_err-found.field-0.0 = search rules in
    none_held (call_of a.e) a.buffer.now _ _ told c.in_err-found.ensures
