-- `WeighingReadings::balance` meets its contract: by its one reading. Assumes nothing.
use Rattle.paper.specs.Record.{alike}
use Rattle.paper.proofs.Weighings.{first_fine}
use Rattle.weighing.proofs.WeighingReadings.balance.Goals as goal

pub reckoned-r-requires : goal.reckoned-r-requires
reckoned-r-requires c = first_fine (alike c.args.self) c.requires
