-- What one reading says, as the code carries it, in grams.
use Rattle.std.specs.Prelude.{◌≡◌, ℕ, ◌≤◌, pos}
use Rattle.laws.specs.Sides.{Below, value_of}
use Rattle.paper.specs.declared.Weighing.{Weighing}
use Rattle.paper.specs.Record.{total_of, moment_of}
use Rattle.reading.specs.declared.Reading.{Reading}

-- two products of a weight and an arm: what a reading adds to a side of the moment at most, in grams
abbrev pub two_products : ℕ
two_products = 32000000000000

-- G, M and n of a weighing
pub record Says (w : Weighing) (r : Reading) : Type 0 where
  pub total : pos r.total ≡ total_of w
  pub moment : value_of r.moment ≡ moment_of w
  pub nonlifting : r.nonlifting ≡ w.n

-- G is 1..2,000,000 and n is 0..G, and the bound of the moment
pub record InGrams (r : Reading) : Type 0 where
  pub least : 1 ≤ r.total
  pub most : r.total ≤ 2000000
  pub part : r.nonlifting ≤ r.total
  pub moment : Below two_products r.moment
