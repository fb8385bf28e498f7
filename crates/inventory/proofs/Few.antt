-- An accepted list has at most 63 arms: it has at most 64 entries, and fewer changes behind its last weighing. Assumes nothing.
use Rattle.std.specs.Prelude.{◌≡◌, true, List, ◌≤◌, length}
use Rattle.std.proofs.Common.{arith}
use Rattle.paper.specs.declared.Entry.{Entry}
use Rattle.paper.specs.Equipment.{fitted, equipment_of}
use Rattle.paper.specs.Refusals.{accepted}
use Rattle.judge.proofs.Accepted.{at_most_64}
use Rattle.stations.proofs.Fitted.{fewer_fitted}
use Rattle.stations.proofs.Arms.{no_more_stations}

pub few_arms : (es : List Entry) → accepted es ≡ true → length (equipment_of (fitted es)) ≤ 63
few_arms es h = omega (arith, no_more_stations (fitted es), fewer_fitted es, at_most_64 es h)
