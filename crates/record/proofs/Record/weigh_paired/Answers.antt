-- `Record::weigh_paired` meets its contract: it is what `add` says of the entry. Assumes nothing.
use Rattle.paper.specs.Refusals.{entry_number}
use Rattle.paper.specs.Journal.{call_number, accepted_call}
use Rattle.record.specs.Held.{answered}
use Rattle.record.proofs.Record.weigh_paired.Goals as goal

pub returns : goal.returns
unfolding answered call_number accepted_call entry_number
returns c = rw c.into.ensures at c.add.ensures
