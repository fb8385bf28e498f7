-- The fields of the waters, which all rear loads have in common.
use Rattle.std.specs.Prelude.{◌≡◌, List, ℕ, ◌*◌, ◌<◌, get_or, length}
use Rattle.paper.specs.Placard.{kilograms}
use Rattle.paper.specs.declared.Sheet.{Sheet}
use Rattle.line.specs.Word.{word}
use Rattle.group.specs.Numbered.{waters}

-- the fields of the first n waters
abbrev pub FieldsTo : Sheet → ℕ → List ℕ → Type 0
FieldsTo s n fields = (k : ℕ) → k < n → get_or fields k 0 ≡ word (kilograms (k * s.water.step))

-- a field for each water
pub record FieldsOf (s : Sheet) (fields : List ℕ) : Type 0 where
  pub count : length fields ≡ waters s
  pub each : FieldsTo s (waters s) fields
