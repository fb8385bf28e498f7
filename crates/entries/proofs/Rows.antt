-- The rows of the table: few fields, none wider than four bytes; an entry's bytes by its kind's row: their number, and a kind as a
-- byte; each by computing it. Assumes nothing.
use Rattle.std.proofs.Common.{◌≡◌, true, List, ℕ, ◌+◌, ◌≤◌, ◌<◌, length, get_or, refl, sym, ap, ◌∙◌, arith}
use Rattle.std.proofs.Math.Option.{some}
use denote.Enum.Declared.{tag_of}
use Rattle.laws.specs.Lists.{at_most, at_most_lem}
use Rattle.paper.specs.declared.Entry.{Entry}
use Rattle.paper.specs.declared.Kind.{Kind}
use Rattle.paper.specs.declared.Kind.TheVariants as kind
use Rattle.paper.specs.contracts.Kind.{the_type}
use Rattle.paper.specs.Numbers.{code_of}
use Rattle.paper.specs.File.{Field, layout_of, kind_of, values_of, entry_bytes}
use Rattle.format.specs.Fields.{widths, total}
use Rattle.format.specs.Rows.{fields_of, fields_at, rows, values_length}
use Rattle.format.specs.Values.{fields_length}

-- ---- rows

-- some fields, at most fifteen, and none wider than four bytes
pub record Listed (fs : List Field) : Type 0 where
  pub some_field : 0 < length fs
  pub few : length fs ≤ 15
  pub narrow : (i : ℕ) → get_or (widths fs) i 0 ≤ 4

row : (fs : List Field) → 0 < length fs → length fs ≤ 15 → at_most 4 (widths fs) ≡ true → Listed fs
row fs h k n = record { some_field = h; few = k; narrow = at_most_lem 4 (widths fs) n }

pub listed : (k : ℕ) (fs : List Field) → layout_of k ≡ some fs → Listed fs
unfolding layout_of widths at_most
listed =
    rows (λ k fs. Listed fs)
    (row (fields_at 1) (omega arith) (omega arith) refl)
    (row (fields_at 2) (omega arith) (omega arith) refl)
    (row (fields_at 3) (omega arith) (omega arith) refl)
    (row (fields_at 4) (omega arith) (omega arith) refl)
    (row (fields_at 5) (omega arith) (omega arith) refl)

-- ---- an entry's bytes

-- a kind as a byte is its number
pub code : (k : Kind) → tag_of the_type k + 1 ≡ code_of k
code kind.Weighing = refl
code kind.Sheet = refl
code kind.Change = refl
code kind.Paired = refl
code kind.Seat = refl

size_in : (e : Entry) (n : ℕ) → n ≡ total (widths (fields_of e)) → 1 + n ≡ length (entry_bytes e)
unfolding entry_bytes
size_in e n h = omega (arith, h, fields_length (fields_of e) (values_of e) (values_length e))

-- by its kind
pub size_at : (e : Entry) (k n : ℕ) → kind_of e ≡ k → n ≡ total (widths (fields_at k)) → 1 + n ≡ length (entry_bytes e)
size_at e k n p h = size_in e n (h ∙ ap (λ (j : ℕ). total (widths (fields_at j))) (sym p))
