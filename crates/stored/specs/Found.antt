-- What is found in some bytes: nothing, or the contents of the list that they are the file of.
use Rattle.std.specs.Prelude.{◌≡◌, List, [], map, ℕ, ◌+◌, ◌<◌, length, Some, None}
use Rattle.std.specs.Prelude.{Option as RustOption}
use Rattle.std.proofs.Math.Option.{Option, none, some}
use Rattle.paper.specs.declared.Entry.{Entry}
use Rattle.paper.specs.Rows.{joined}
use Rattle.paper.specs.File.{entry_bytes}
use Rattle.paper.specs.Journal.{without_last}
use Rattle.judge.specs.Standing.{stands_in, plainly}
use Rattle.stored.specs.declared.Contents.{Contents}

-- the bytes of some entries, one behind the other
abbrev pub bytes_in : List Entry → List ℕ
bytes_in es = joined (map entry_bytes es)

-- the place of a list's last entry in its file, whose first six bytes are the header; none where it has no entry
abbrev pub LastAt : List Entry → RustOption ℕ → Type 0
LastAt es None = es ≡ []
LastAt es (Some n) = (0 < length es) × (n ≡ 6 + length (bytes_in (without_last es)))

-- the contents of a list's file
pub record ContentsOf (es : List Entry) (c : Contents) : Type 0 where
  pub stands : plainly c.standing ≡ stands_in es
  pub last : LastAt es c.last
  pub end : c.end ≡ 6 + length (bytes_in es)

-- what is found in some bytes, where o is the list that they are the file of, none where there is none
abbrev pub Finds : Option (List Entry) → RustOption Contents → Type 0
Finds o None = o ≡ none
Finds o (Some c) = (es : List Entry) × (o ≡ some es) × ContentsOf es c
