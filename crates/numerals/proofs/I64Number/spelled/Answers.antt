-- A signed number has the numeral that std prints. Assumes nothing.
use Rattle.numerals.proofs.Signs.{numeral_same}
use Rattle.numerals.proofs.I64Number.spelled.Goals as goal

pub returns : goal.returns
returns c = numeral_same c.args.self c.ranges.self.sfits
