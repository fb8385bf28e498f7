-- What a reader has still to read, and what it gives: entries of the kinds that a version has.
use Rattle.std.specs.Prelude.{◌≡◌, cond, List, ℕ, ◌-◌, leb, length, drop, Some, None}
use Rattle.std.specs.Prelude.{Option as RustOption}
use Rattle.std.specs.Borrow.{Bor}
use Rattle.std.proofs.Math.Option.{Option, none, some}
use Rattle.paper.specs.declared.Entry.{Entry}
use Rattle.paper.specs.declared.Kind.{Kind}
use Rattle.paper.specs.Numbers.{code_of}
use Rattle.paper.specs.File.{kind_of, take_entry}
use Rattle.entries.specs.Taking.{Takes}
use Rattle.reader.specs.declared.Reader.{Reader}

-- the bytes that are still to be read, as they are lent
abbrev pub unread : Reader → Bor (List ℕ)
unread r = r.rest

-- the last kind of entry that the version of their file has
abbrev pub last_of : Reader → Kind
last_of r = r.kinds

-- an entry that was taken is one of a kind up to k, else none is
abbrev pub up_to : ℕ → Option (Entry × List ℕ) → Option (Entry × List ℕ)
up_to k none = none
up_to k (some p) = cond (leb (kind_of p.0) k) (some p) none

unfoldable pub take_to : ℕ → List ℕ → Option (Entry × List ℕ)
take_to k xs = up_to k (take_entry xs)

-- the entry that the bytes begin with, behind which the reader then stands, or none, and then it stands where it stood
abbrev pub GivesEntry : Reader → RustOption Entry → Reader → Type 0
GivesEntry s x t = Takes (take_to (code_of (last_of s)) (unread s).now) (unread s) x (unread t) × (last_of t ≡ last_of s)

-- an entry with the place where the bytes behind it begin, of n bytes in all
abbrev pub walk_of : ℕ → Option (Entry × List ℕ) → RustOption (Entry × ℕ)
walk_of n none = None
walk_of n (some p) = Some (p.0, n - length p.1)

-- the entry at a place of some bytes, and the place behind it; none where there is none, as behind their end
unfoldable pub walk_at : List ℕ → ℕ → RustOption (Entry × ℕ)
walk_at s at = walk_of (length s) (take_entry (drop at s))
