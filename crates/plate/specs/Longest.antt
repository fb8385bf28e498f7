-- The longest placard, by the sheets that are accepted.
use Rattle.std.specs.Prelude.{◌≡◌, ℕ, ◌≤◌}
use Rattle.paper.specs.declared.Sheet.{Sheet}
use Rattle.paper.specs.Placard.{text_length}
use Rattle.paper.specs.Refusals.{first_number, sheet_faults}

-- n bytes hold the placard of each accepted sheet, and one of them fills them
pub record IsLongest (n : ℕ) : Type 0 where
  pub most : (s : Sheet) → first_number (sheet_faults s) ≡ 0 → text_length s ≤ n
  pub reached : (s : Sheet) × (first_number (sheet_faults s) ≡ 0) × (text_length s ≡ n)
