-- What is known of the equipment that is told apart behind some entries.
use Rattle.std.specs.Prelude.{◌≡◌, true, List, ℕ, ◌≤◌, ◌<◌, length, get_or, take, ℤ}
use Rattle.std.specs.Ordering.{int_cmp}
use Rattle.std.specs.declared.cmp.Ordering.TheVariants.{Less, Greater}
use Rattle.laws.specs.Lists.{Each}
use Rattle.paper.specs.declared.Change.{Change}
use Rattle.paper.specs.declared.Entry.{Entry}
use Rattle.paper.specs.declared.Equipment.{Equipment}
use Rattle.paper.specs.Refusals.{is_change}
use Rattle.paper.specs.Equipment.{fitted, equipment_of}
use Rattle.fittings.specs.declared.Fittings.{Fittings}

-- the equipment in the used places
abbrev pub fitted_in : Fittings → List Equipment
fitted_in t = take t.count t.places

-- the changes of an accepted list that has room for one more: there are fewer than 64, and each keeps to its ranges
pub record Admissible (xs : List Change) : Type 0 where
  pub few : length xs < 64
  pub fine : Each (λ (x : Change). is_change x ≡ true) xs

-- where an arm is among some equipment
pub record IsAt (es : List Equipment) (a : ℤ) (at : ℕ) : Type 0 where
  pub place : at < length es
  pub arm : (d : Equipment) → (get_or es at d).arm ≡ a

-- where it belongs, none being there
pub record IsGap (es : List Equipment) (a : ℤ) (at : ℕ) : Type 0 where
  pub place : at ≤ length es
  pub ahead : (j : ℕ) (d : Equipment) → j < at → int_cmp (get_or es j d).arm a ≡ Less
  pub behind : (j : ℕ) (d : Equipment) → at ≤ j → j < length es → int_cmp (get_or es j d).arm a ≡ Greater

-- what is known behind some entries: the equipment in the places is that of their list
abbrev pub Tells : List Entry → Fittings → Type 0
Tells es t = fitted_in t ≡ equipment_of (fitted es)
