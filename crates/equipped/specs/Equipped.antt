-- What is found in some bytes: nothing, or the equipment of the list that they are the file of.
use Rattle.std.specs.Prelude.{◌≡◌, not, List, Some, None}
use Rattle.std.specs.Prelude.{Option as RustOption}
use Rattle.std.proofs.Math.Option.{Option, none, some}
use Rattle.paper.specs.declared.Entry.{Entry}
use Rattle.paper.specs.Record.{balance_of, is_none}
use Rattle.fittings.specs.Fittings.{Tells}
use Rattle.equipped.specs.declared.Equipped.{Equipped}

-- the equipment of a list, and whether the list has a weighing
pub record EquipmentOf (es : List Entry) (c : Equipped) : Type 0 where
  pub weighed : c.weighed ≡ not (is_none (balance_of es))
  pub fittings : Tells es c.fittings

-- what is found in some bytes, where o is the list that they are the file of, none where there is none
abbrev pub Equips : Option (List Entry) → RustOption Equipped → Type 0
Equips o None = o ≡ none
Equips o (Some c) = (es : List Entry) × (o ≡ some es) × EquipmentOf es c
