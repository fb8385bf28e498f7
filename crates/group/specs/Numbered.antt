-- The rows of a placard by their number: its loads, its row and its line, and what it counts for among the blank ones.
use Rattle.std.specs.Prelude.{ℕ, ◌+◌, ◌*◌, ◌/◌, ◌%◌, cond, List, map}
use Rattle.paper.specs.declared.Sheet.{Sheet}
use Rattle.paper.specs.declared.Seat.{Seat}
use Rattle.paper.specs.Record.{Balance}
use Rattle.paper.specs.Rows.{Row, row, is_blank, below, joined}
use Rattle.paper.specs.Placard.{line, blank_of}

-- how many loads of water there are beside each rear load
abbrev pub waters : Sheet → ℕ
waters s = s.water.most / s.water.step + 1

-- and how many rear loads
abbrev pub rears : Sheet → ℕ
rears s = s.rear.most / s.rear.step + 1

-- rear load and water of the i-th row
abbrev pub rear_at : Sheet → ℕ → ℕ
rear_at s i = i / waters s * s.rear.step

abbrev pub water_at : Sheet → ℕ → ℕ
water_at s i = i % waters s * s.water.step

abbrev pub row_at : Sheet → Seat → Balance → ℕ → Row
row_at s f b i = row s f b (rear_at s i) (water_at s i)

abbrev pub line_at : Sheet → Seat → Balance → ℕ → List ℕ
line_at s f b i = line (rear_at s i) (water_at s i) (row_at s f b i)

-- a blank row counts for one
abbrev pub blanks : Row → ℕ
blanks x = cond (is_blank x) 1 0

-- the lines of the first i rows
abbrev pub lines_to : Sheet → Seat → Balance → ℕ → List ℕ
lines_to s f b i = joined (map (line_at s f b) (below i))

-- the lines of the next k
abbrev pub lines_from : Sheet → Seat → Balance → ℕ → ℕ → List ℕ
lines_from s f b i k = joined (map (λ (j : ℕ). line_at s f b (i + j)) (below k))

-- how many of the first i are blank
abbrev pub blanks_to : Sheet → Seat → Balance → ℕ → ℕ
blanks_to s f b i = blank_of (map (row_at s f b) (below i))
