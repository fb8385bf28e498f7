-- `front::check` meets its contract, by what the buffer holds. Assumes nothing.
use Rattle.std.proofs.Common.{◌≡◌, rules}
use Rattle.paper.specs.Numbers.{number_in, number_of}
use Rattle.front.proofs.Answers.{no_file, a_file}
use Rattle.front.proofs.check.Goals as goal

pub returns-in_err-held : goal.returns-in_err-held
returns-in_err-held c =
    let told : number_in c.from_residual.result ≡ number_of c.in_err-held.field-0.0 = search rules in
    no_file c.args.buffer.now _ _ told c.in_err-held.ensures

pub returns : goal.returns
returns c =
    let f = c.in_ok-held.ensures in
    a_file c.args.buffer.now f.0 f.1
