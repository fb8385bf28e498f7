-- How long the file of a list that accepted calls give may be.
use Rattle.std.specs.Prelude.{◌≡◌, true, List, ℕ, ◌≤◌, length}
use Rattle.paper.specs.declared.Entry.{Entry}
use Rattle.paper.specs.File.{file_bytes}
use Rattle.paper.specs.Refusals.{accepted}

-- n bytes hold each of these files, and one of them fills them
pub record IsLongest (n : ℕ) : Type 0 where
  pub most : (es : List Entry) → accepted es ≡ true → length (file_bytes es) ≤ n
  pub reached : (es : List Entry) × (accepted es ≡ true) × (length (file_bytes es) ≡ n)
