-- What a given placard prints: each line is that of its row and can be read in one way only, so what the laws of rows say holds
-- of whatever is read off it. Assumes nothing.
use Rattle.std.specs.Prelude.{◌≡◌, refl, true, false, Some, None, List, ℕ, ◌≤◌, ◌<◌, get_or}
use Rattle.std.proofs.Common.{ap, ◌∙◌, arith}
use Rattle.std.proofs.Math.Option.{some}
use Rattle.paper.specs.declared.Sheet.{Sheet}
use Rattle.paper.specs.declared.Seat.{Seat}
use Rattle.paper.specs.declared.Entry.{Entry}
use Rattle.paper.specs.Record.{Balance, sheet_of}
use Rattle.paper.specs.Rows.{Row, row, row_count, loads, rear_of, water_of, is_step, good, breaks, in_range, misses, is_blank}
use Rattle.paper.specs.Placard.{text, line_in, RowFits, ReadAs}
use Rattle.paper.specs.Answers.{over}
use Rattle.paper.specs.Refusals.{accepted}
use Rattle.paper.proofs.Lists.{below_at}
use Rattle.sheet.proofs.Accepted.{accepted-sheet}
use Rattle.sheet.proofs.Lists.{sheet-accepted}
use Rattle.planes.proofs.Rows as rows
use Rattle.group.specs.Numbered.{rear_at, water_at}
use Rattle.group.proofs.Rows.{loads_by_index, rear_most, water_most, line_at_lem}

-- every row fits its fields
row_fits : (s : Sheet) (f : Seat) (b : Balance) (r w : ℕ) → s.front.most ≤ 500000 → RowFits (row s f b r w)
row_fits s f b r w h = by (row s f b r w) refl
  where
    by : (x : Row) → row s f b r w ≡ x → RowFits x
    by (Some (lo, hi)) e = let m = rows.range_most s f b r w lo hi e in (omega (arith, m.0), omega (arith, m.1))
    by None e = tt

-- the i-th row's loads, by its number
loads_at : (s : Sheet) (i : ℕ) → i < row_count s → get_or (loads s) i (0, 0) ≡ (rear_at s i, water_at s i)
loads_at s i h = rw (loads_by_index s) (below_at (λ (j : ℕ). (rear_at s j, water_at s j)) (row_count s) i (0, 0) h)

-- the i-th line says the i-th row
pub line_read : (es : List Entry) → accepted es ≡ true → (lent left : List ℕ) (s : Sheet) (f : Seat) (b : Balance) → sheet_of es ≡ some s → left ≡ over (text s f b) lent
    → (i : ℕ) → i < row_count s → ReadAs (line_in left i) (rear_of s i) (water_of s i) (row s f b (rear_of s i) (water_of s i))
unfolding over
line_read es ok lent left s f b e l i h =
    let ranges = (accepted-sheet s (sheet-accepted es s ok e)).ranges in
    let rear : rear_of s i ≡ rear_at s i = ap (λ (p : ℕ × ℕ). p.0) (loads_at s i h) in
    let water : water_of s i ≡ water_at s i = ap (λ (p : ℕ × ℕ). p.1) (loads_at s i h) in
    rw (rear, water)
    (record {
      bytes = ap (λ (xs : List ℕ). line_in xs i) l ∙ line_at_lem s f b i _ h;
      rear = omega (arith, rear_most s i h, ranges.rear);
      water = omega (arith, water_most s i, ranges.water);
      row = row_fits s f b (rear_at s i) (water_at s i) ranges.front;
    })

-- ---- the clauses of rows, of a row that is read

module _ (s : Sheet) (f : Seat) (b : Balance) (r w : ℕ) (x : Row) (e : x ≡ row s f b r w) where
  pub none_breaks : (p v : ℕ) → is_step s p ≡ true → in_range p x ≡ true → v ≤ w → breaks s f b r p v ≡ false
  unfolding row
  none_breaks p v step range h =
      rows.breaks_none s f b r p v (rows.each_kept (rows.limits_of s f b r w) p v step (rw e at range) h)

  pub none_missed : (p : ℕ) → misses s f b r w x p ≡ false
  unfolding row
  none_missed p = rw e (rows.none_missed (rows.limits_of s f b r w) p)

  pub blank_exactly : (is_blank x ≡ true → (p : ℕ) → good s f b r w p ≡ false) × (((p : ℕ) → good s f b r w p ≡ false) → is_blank x ≡ true)
  unfolding row
  blank_exactly = rw e (rows.blank_none (rows.limits_of s f b r w), rows.none_blank (rows.limits_of s f b r w))
