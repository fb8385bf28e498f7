-- The balance that the code carries as the paper's G, M and n, and the bounds that keep its sums in their words.
use Rattle.std.specs.Prelude.{ℕ, ◌*◌, ◌≤◌, pos}
use Rattle.laws.specs.Sides.{Below, value_of}
use Rattle.paper.specs.Record as paper
use Rattle.balance.specs.declared.Balance.{Balance}

-- what an entry adds to a side of the moment at most
abbrev pub an_entry : ℕ
an_entry = 64000000000000

abbrev pub plain : Balance → paper.Balance
plain b = record { total = pos b.total; moment = value_of b.moment; non_lifting = pos b.nonlifting }

-- G is 2..4,000,000 half grams and n is 0..G
pub record Ranged (b : Balance) : Type 0 where
  pub least : 2 ≤ b.total
  pub most : b.total ≤ 4000000
  pub part : b.nonlifting ≤ b.total

-- the balance of k accepted entries
pub record Bounded (k : ℕ) (b : Balance) : Type 0 where
  pub ranged : Ranged b
  pub moment : Below (an_entry * k) b.moment
