-- `line::put_word` meets its contract: eight stores, one behind the other. Assumes nothing.
use Rattle.line.proofs.Fields.{bytes-written}
use Rattle.line.proofs.put_word.Goals as goal

pub returns : goal.returns
returns c = let a = c.args in bytes-written a.out.now a.x c.requires
