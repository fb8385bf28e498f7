-- `entries::take_stored` meets its contract, by how many bytes there are. Assumes nothing.
use Rattle.std.proofs.Common.{refl, ◌∙◌}
use Rattle.paper.specs.Numbers.{code_of}
use Rattle.entries.proofs.Taking.{too_few, enough}
use Rattle.entries.proofs.take_stored.Goals as goal

pub returns-in_err-fields : goal.returns-in_err-fields
returns-in_err-fields g c =
    let t = g.T.Stored in
    rw c.from_residual.ensures
    (too_few (code_of t.KIND) c.LENGTH.result c.args.behind.now (c.LENGTH.ensures ∙ g.met.T.Stored.sized) c.in_err-fields.ensures.cases, refl)

pub returns : goal.returns
returns g c =
    let t = g.T.Stored in
    let split = c.in_ok-fields.ensures.cases in
    enough (code_of t.KIND) c.LENGTH.result c.args.behind.now (c.LENGTH.ensures ∙ g.met.T.Stored.sized) split.0 _ _ _ split.1 c.entry_from.ensures split.2
