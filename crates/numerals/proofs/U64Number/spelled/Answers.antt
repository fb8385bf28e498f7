-- A number without a sign has the digits that std prints. Assumes nothing.
use Rattle.numerals.specs.Numerals.{numeral}
use Rattle.numerals.proofs.Lengths.{decimal_same}
use Rattle.numerals.proofs.U64Number.spelled.Goals as goal

pub returns : goal.returns
unfolding numeral
returns c = decimal_same c.args.self c.ranges.self.fits
