-- What stands in a list as the code carries it, and what the judgement of an entry comes to.
use Rattle.std.specs.Prelude.{Bool, not, cond, List, [], ◌∷◌, ◌++◌, ℕ, ◌+◌, leb, eqb, length}
use Rattle.std.specs.Prelude.{Option as RustOption, Some, None}
use Rattle.std.proofs.Math.Option.{Option, none, some, map}
use Rattle.paper.specs.declared.Sheet.{Sheet}
use Rattle.paper.specs.declared.Seat.{Seat}
use Rattle.paper.specs.declared.Entry.{Entry}
use Rattle.paper.specs.declared.Entry.TheVariants as entry
use Rattle.paper.specs.Record as paper
use Rattle.paper.specs.Refusals.{capacity, first_number, ◌when◌, weighing_faults, sheet_faults, change_faults, seat_faults, entry_number}
use Rattle.seat.specs.declared.InForce.{InForce}
use Rattle.seat.specs.InForce.{as_pair, found, in_force, after as force_after}
use Rattle.balance.specs.declared.Balance.{Balance}
use Rattle.balance.specs.Balance.{plain}
use Rattle.judge.specs.declared.Standing.{Standing}

-- what stands, as the paper has it: how many entries, the balance, and the sheet in force with the ends of its front arm
pub record Stands : Type 0 where
  pub entries : ℕ
  pub balance : Option paper.Balance
  pub force : Option (Sheet × Seat)

-- in a list
unfoldable pub stands_in : List Entry → Stands
stands_in es = record { entries = length es; balance = paper.balance_of es; force = in_force es }

-- as the code carries it
abbrev pub balance_in : RustOption Balance → Option paper.Balance
balance_in None = none
balance_in (Some b) = some (plain b)

abbrev pub plainly : Standing → Stands
plainly s = record { entries = s.entries; balance = balance_in s.balance; force = found s.force }

-- one entry more, with another balance, and with another sheet or seat in force
abbrev pub weighed_with : Stands → Balance → Stands
weighed_with o b = record { entries = o.entries + 1; balance = some (plain b); force = o.force }

abbrev pub forced_with : Stands → InForce → Stands
forced_with o x = record { entries = o.entries + 1; balance = o.balance; force = some (as_pair x) }

-- what is asked of an entry behind 9, where o stands
abbrev pub faults_of : Stands → Entry → List (ℕ × Bool)
faults_of o (entry.Weighing w) = weighing_faults (paper.alike w)
faults_of o (entry.Sheet s) = sheet_faults s
faults_of o (entry.Change x) = change_faults o.balance x
faults_of o (entry.Paired x) = weighing_faults (paper.paired x)
faults_of o (entry.Seat f) = seat_faults (not (paper.is_none o.force)) f

-- the number that an entry gets where o stands
unfoldable pub number_at : Stands → Entry → ℕ
number_at o e = first_number (9 when leb capacity o.entries ∷ faults_of o e)

-- the balance once an entry is added
abbrev pub balance_after : Option paper.Balance → Entry → Option paper.Balance
balance_after o (entry.Weighing w) = some (paper.weighed (paper.alike w))
balance_after o (entry.Sheet s) = o
balance_after o (entry.Change x) = map (λ (b : paper.Balance). paper.changed b x) o
balance_after o (entry.Paired x) = some (paper.weighed (paper.paired x))
balance_after o (entry.Seat f) = o

-- what stands then
abbrev pub after : Stands → Entry → Stands
after o e = record { entries = o.entries + 1; balance = balance_after o.balance e; force = force_after o.force e }

-- a judgement: the number, and what stands once the entry is added, or as it stood where it is refused
unfoldable pub judged : Stands → Entry → ℕ × Stands
judged o e = (number_at o e, cond (eqb (number_at o e) 0) (after o e) o)

-- a list with an entry behind it, where its call accepts it there
unfoldable pub kept_behind : List Entry → Entry → List Entry
kept_behind es e = cond (eqb (entry_number es e) 0) (es ++ e ∷ []) es
