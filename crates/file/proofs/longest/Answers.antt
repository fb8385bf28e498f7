-- `file::longest` meets its contract: its number is the header's length and as many sheets' as there may be entries.
-- Assumes nothing.
use Rattle.file.proofs.Lengths.{longest_is}
use Rattle.file.proofs.longest.Goals as goal

pub returns : goal.returns
returns c = longest_is
