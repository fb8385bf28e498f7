-- The most arms, by the lists that are accepted.
use Rattle.std.specs.Prelude.{◌≡◌, true, List, ℕ, ◌≤◌, length}
use Rattle.paper.specs.declared.Entry.{Entry}
use Rattle.paper.specs.Equipment.{fitted, equipment_of}
use Rattle.paper.specs.Refusals.{accepted}

-- columns of n elements hold the equipment of each accepted list, and one of them fills them
pub record IsMost (n : ℕ) : Type 0 where
  pub most : (es : List Entry) → accepted es ≡ true → length (equipment_of (fitted es)) ≤ n
  pub reached : (es : List Entry) × (accepted es ≡ true) × (length (equipment_of (fitted es)) ≡ n)
