-- The rows of a sheet by one index: their loads, their lines and the blank ones among them. Assumes nothing.
use mathlib.Core.Path.{◌≡◌, refl}
use mathlib.Core.Bool.{Bool, true, false, cond, not}
use mathlib.Core.List.{List, [], ◌∷◌, ◌++◌, map, map-map, append_assoc, append-nil}
use Prim.Native.Nat.{ℕ, zero, suc, ◌+◌, ◌*◌, ◌/◌, ◌%◌, ◌≤◌, ◌<◌}
use native.Mathlib.Nat.{div-lt_iff_lt-mul, mod-lt}
use native.Mathlib.Omega.{arith}
use lib.ListN.{length, take, drop}
use Rattle.std.specs.Prelude.{is_some}
use Rattle.std.specs.Int.{from_bool}
use Rattle.laws.specs.Division.{multiple_most}
use Rattle.paper.specs.declared.Sheet.{Sheet}
use Rattle.paper.specs.declared.Seat.{Seat}
use Rattle.paper.specs.Record.{Balance}
use Rattle.paper.specs.Rows.{Row, is_blank, below, loads_of, row_count, joined, loads}
use Rattle.paper.specs.Placard.{text, text_length, blank_of, blank_count}
use Rattle.group.specs.Numbered.{waters, rear_at, water_at, row_at, line_at, blanks, lines_to, lines_from}
use Rattle.line.proofs.Length.{length-line}
use Rattle.paper.proofs.Lists.{map-below-more, joined-more, length-joined, joined_at, joined_by_index}

-- ---- the loads

-- the rear load varies slowest, the water fastest
pub loads_by_index : (s : Sheet) → loads s ≡ map (λ (i : ℕ). (rear_at s i, water_at s i)) (below (row_count s))
unfolding loads loads_of row_count
loads_by_index s = simp map-map (joined_by_index (λ (i j : ℕ). (i * s.rear.step, j * s.water.step)) (waters s) (s.rear.most / s.rear.step + 1))

-- no row is above the greatest loads
pub rear_most : (s : Sheet) (i : ℕ) → i < row_count s → rear_at s i ≤ s.rear.most
unfolding row_count
rear_most s i h =
    multiple_most s.rear.most s.rear.step (i / waters s) ((div-lt_iff_lt-mul {k = waters s} (omega arith)).1 h)

pub water_most : (s : Sheet) (i : ℕ) → water_at s i ≤ s.water.most
water_most s i = multiple_most s.water.most s.water.step (i % waters s) (mod-lt i (omega arith))

-- ---- the text

pub text_by_index : (s : Sheet) (f : Seat) (b : Balance) → text s f b ≡ joined (map (line_at s f b) (below (row_count s)))
unfolding text
text_by_index s f b = rw (loads_by_index s, map-map)

pub length-lines : (s : Sheet) (f : Seat) (b : Balance) (i : ℕ) → length (joined (map (line_at s f b) (below i))) ≡ 36 * i
length-lines s f b i = length-joined (line_at s f b) 36 (λ j. length-line (rear_at s j) (water_at s j) (row_at s f b j)) i

pub length-text : (s : Sheet) (f : Seat) (b : Balance) → length (text s f b) ≡ text_length s
unfolding text_length
length-text s f b = rw (text_by_index s f b) (length-lines s f b (row_count s))

-- the i-th line, whatever stands behind the last
pub line_at_lem : (s : Sheet) (f : Seat) (b : Balance) (i : ℕ) (zs : List ℕ) → i < row_count s → take 36 (drop (36 * i) (text s f b ++ zs)) ≡ line_at s f b i
line_at_lem s f b i zs h =
    rw (text_by_index s f b)
    (joined_at (line_at s f b) 36 (λ j. length-line (rear_at s j) (water_at s j) (row_at s f b j)) (row_count s) i zs h)

-- the next k lines: how many bytes they have, one more of them, and behind the first i
pub length-lines_from : (s : Sheet) (f : Seat) (b : Balance) (i k : ℕ) → length (lines_from s f b i k) ≡ 36 * k
length-lines_from s f b i k =
    length-joined (λ j. line_at s f b (i + j)) 36 (λ j. length-line (rear_at s (i + j)) (water_at s (i + j)) (row_at s f b (i + j))) k

pub lines_from_more : (s : Sheet) (f : Seat) (b : Balance) (i k : ℕ) → lines_from s f b i (suc k) ≡ lines_from s f b i k ++ line_at s f b (i + k)
lines_from_more s f b i k = joined-more (λ j. line_at s f b (i + j)) k

pub lines_on : (s : Sheet) (f : Seat) (b : Balance) (i k : ℕ) → lines_to s f b (i + k) ≡ lines_to s f b i ++ lines_from s f b i k
unfolding below joined
lines_on s f b i zero = let e : i + 0 ≡ i = omega arith in rw (e, append-nil (lines_to s f b i))
lines_on s f b i (suc k) =
    let e : i + suc k ≡ suc (i + k) = omega arith in
    rw (e, joined-more (line_at s f b) (i + k), lines_on s f b i k, lines_from_more s f b i k)
    (append_assoc (lines_to s f b i) (lines_from s f b i k) (line_at s f b (i + k)))

-- ---- the blank rows

pub blank_by_index : (s : Sheet) (f : Seat) (b : Balance) → blank_count s f b ≡ blank_of (map (row_at s f b) (below (row_count s)))
unfolding blank_count
blank_by_index s f b = rw (loads_by_index s, map-map)

blank_last : (xs : List Row) (x : Row) → blank_of (xs ++ x ∷ []) ≡ blank_of xs + cond (is_blank x) 1 0
unfolding blank_of
blank_last [] x = first (is_blank x)
  where
    first : (t : Bool) → cond t 1 0 ≡ 0 + cond t 1 0
    first t = omega arith
blank_last (y ∷ xs) x = rw (blank_last xs x) (added (is_blank y))
  where
    added : (t : Bool) → cond t (suc (blank_of xs + cond (is_blank x) 1 0)) (blank_of xs + cond (is_blank x) 1 0) ≡ cond t (suc (blank_of xs)) (blank_of xs) + cond (is_blank x) 1 0
    added true = omega arith
    added false = refl

-- as the code counts a row: by whether it has no range
pub blank_counted : (x : Row) (t : Bool) → is_some x ≡ not t → from_bool t ≡ blanks x
blank_counted x true e = rw e refl
blank_counted x false e = rw e refl

pub one_at_most : (t : Bool) (n : ℕ) → n ≡ from_bool t → n ≤ 1
one_at_most true n e = omega (arith, e)
one_at_most false n e = omega (arith, e)

pub blank_more : (g : ℕ → Row) (i : ℕ) → blank_of (map g (below (suc i))) ≡ blank_of (map g (below i)) + blanks (g i)
blank_more g i = rw (map-below-more g i) (blank_last (map g (below i)) (g i))
