-- `Readings::balance` meets its contract, where it is not written anew: by the two readings, of which neither has a condition.
-- Assumes nothing.
use mathlib.Core.Path.{◌≡◌, ◌∙◌, ap}
use Rattle.paper.specs.Record.{weighed}
use Rattle.paper.proofs.Weighings.{first_fine, second_fine}
use Rattle.weighing.specs.Readings.{both}
use Rattle.weighing.proofs.Readings.balance.Goals as goal

pub reckoned-requires : goal.reckoned-requires
reckoned-requires g c = rw c.first.ensures (first_fine (g.Self.Readings.readings c.args.self) c.requires)

pub reckoned-requires-2 : goal.reckoned-requires-2
reckoned-requires-2 g c = rw c.second.ensures (second_fine (g.Self.Readings.readings c.args.self) c.requires)

pub returns : goal.returns
returns g c =
    let same : both c.first.result c.second.result ≡ g.Self.Readings.readings c.args.self =
    λ i. record { first = c.first.ensures i; second = c.second.ensures i } in
    (c.added.ensures.0 _ _ c.reckoned.ensures.0 c.reckoned-2.ensures.0 ∙ ap weighed same, c.added.ensures.1)
