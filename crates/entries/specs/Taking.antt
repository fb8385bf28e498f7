-- What taking an entry off the front of some bytes finds.
use Rattle.std.specs.Prelude.{◌≡◌, List, ℕ, ℤ, Some, None}
use Rattle.std.specs.Prelude.{Option as RustOption}
use Rattle.std.specs.Borrow.{Bor}
use Rattle.std.proofs.Math.Option
use Rattle.std.proofs.Math.Option.{Option, none, some}
use Rattle.paper.specs.declared.Entry.{Entry}
use Rattle.paper.specs.File.{entry_of, take_fields}
use Rattle.format.specs.Rows.{fields_at}

-- the entry, and the bytes behind it that are left of s, where o is what the definition takes; where that is nothing, s is left
abbrev pub Takes : Option (Entry × List ℕ) → Bor (List ℕ) → RustOption Entry → Bor (List ℕ) → Type 0
Takes o s None t = (o ≡ none) × (t ≡ s)
Takes o s (Some e) t = o ≡ some (e, t.now)

-- the entry of a kind whose fields some bytes begin with
unfoldable pub take_kind : ℕ → List ℕ → Option (Entry × List ℕ)
take_kind k xs = Option.map (λ (z : List ℤ × List ℕ). (entry_of k z.0, z.1)) (take_fields (fields_at k) xs)
