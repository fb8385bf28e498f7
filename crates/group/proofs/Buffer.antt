-- The lines in the buffer: each goes behind those before it, and the rows beside a rear load behind those of the rear loads
-- before it. Assumes nothing.
use mathlib.Core.Path.{◌≡◌, sym, ap}
use mathlib.Core.List.{List}
use Prim.Native.Nat.{ℕ, suc, ◌+◌, ◌*◌, ◌≤◌, ◌<◌}
use mathlib.Core.Logic.{⊎_elim}
use native.Mathlib.Nat.{mul-le-mul_right, add-mul, one-mul, eq-or-lt_of_le}
use native.Mathlib.Numerals.{add-one}
use native.Mathlib.Omega.{arith}
use lib.Arith.{digits_div, digits_mod}
use lib.ListN.{length, set}
use lib.Seq.{get_or-set_same, get_or-set_other}
use Rattle.laws.specs.Division.{multiple_most}
use Rattle.laws.specs.Written.{written, written_none, written_follows}
use Rattle.paper.specs.declared.Sheet.{Sheet}
use Rattle.paper.specs.declared.Seat.{Seat}
use Rattle.paper.specs.Record.{Balance}
use Rattle.sheet.proofs.Accepted.{accepted-sheet}
use Rattle.seat.specs.declared.InForce.{InForce}
use Rattle.paper.specs.Rows.{row, row_count, below, joined}
use Rattle.paper.specs.Placard.{kilograms, line}
use Rattle.line.specs.Word.{word}
use Rattle.group.specs.Numbered.{rears, waters, rear_at, water_at, row_at, line_at, blanks, lines_to, lines_from, blanks_to}
use Rattle.group.specs.Shared.{FieldsTo}
use Rattle.group.proofs.Rows.{length-lines, length-lines_from, lines_from_more, lines_on, blank_more}

-- ---- the rows beside one rear load

-- n is how many waters there are beside each
module _ (s : Sheet) (n : ℕ) (e : n ≡ waters s) where
  module _ (j k : ℕ) (h : k < n) where
    rear_of_lem : rear_at s (j * n + k) ≡ j * s.rear.step
    rear_of_lem = rw (← e, digits_div j h)

    water_of_lem : water_at s (j * n + k) ≡ k * s.water.step
    water_of_lem = rw (← e, digits_mod j h)

    pub water_in : k * s.water.step ≤ s.water.most
    water_in = multiple_most s.water.most s.water.step k (omega arith)

    -- its row and its line, by the loads
    pub row_in : (f : Seat) (b : Balance) → row s f b (j * s.rear.step) (k * s.water.step) ≡ row_at s f b (j * n + k)
    row_in f b = rw (rear_of_lem, water_of_lem)

    pub line_in_lem : (f : Seat) (b : Balance) → line (j * s.rear.step) (k * s.water.step) (row s f b (j * s.rear.step) (k * s.water.step)) ≡ line_at s f b (j * n + k)
    line_in_lem f b = rw (rear_of_lem, water_of_lem)

  -- all rows of a group are among the sheet's
  pub group_room : (j : ℕ) → j < rears s → j * n + n ≤ row_count s
  unfolding row_count
  group_room j h =
      let more : (j + 1) * n ≤ rears s * n = mul-le-mul_right n (omega arith) in
      rw (← e) (omega (arith, add-mul j 1 n, one-mul n))

pub rear_in : (s : Sheet) (j : ℕ) → j < rears s → j * s.rear.step ≤ s.rear.most
rear_in s j h = multiple_most s.rear.most s.rear.step j h

-- the waters of a sheet in force are few
pub waters_few : (x : InForce) (n : ℕ) → n ≡ waters x.sheet → n ≤ 256
waters_few x n e =
    omega (arith, group_room x.sheet n e 0 (omega arith), (accepted-sheet x.sheet x.accepted).steps.rows)

-- the first k rows of a group, the first being the i-th of all: as they stand in a buffer, and how many are blank
pub record GroupTo (s : Sheet) (f : Seat) (b : Balance) (i k blank : ℕ) (from out : List ℕ) : Type 0 where
  pub blanks : blank + blanks_to s f b i ≡ blanks_to s f b (i + k)
  pub lines : out ≡ written from 0 (lines_from s f b i k)

pub group_begun : (s : Sheet) (f : Seat) (b : Balance) (i : ℕ) (out : List ℕ) → GroupTo s f b i 0 0 out out
unfolding below joined
group_begun s f b i out =
    let e : i + 0 ≡ i = omega arith in
    record { blanks = omega (arith, ap (blanks_to s f b) e); lines = sym (written_none out 0) }

-- one row more
pub group_more : (s : Sheet) (f : Seat) (b : Balance) (i k blank one : ℕ) (from out last : List ℕ) → GroupTo s f b i k blank from out → 36 * k ≤ length from → one ≡ blanks (row_at s f b (i + k)) → last ≡ written out (36 * k) (line_at s f b (i + k)) → GroupTo s f b i (k + 1) (blank + one) from last
group_more s f b i k blank one from out last g h o l =
    let e : i + (k + 1) ≡ suc (i + k) = omega arith in
    record {
      blanks = rw (e, blank_more (row_at s f b) (i + k)) (omega (arith, g.blanks, o));
      lines = rw (l, g.lines, add-one k, lines_from_more s f b i k) (written_follows from (lines_from s f b i k) (line_at s f b (i + k)) (36 * k) (length-lines_from s f b i k) h);
    }

-- and behind the groups before it
pub group_put : (s : Sheet) (f : Seat) (b : Balance) (i n : ℕ) (lent out last : List ℕ) → 36 * i ≤ length lent → out ≡ written lent 0 (lines_to s f b i) → last ≡ written out (36 * i) (lines_from s f b i n) → last ≡ written lent 0 (lines_to s f b (i + n))
group_put s f b i n lent out last h o l =
    rw (l, o, lines_on s f b i n) (written_follows lent (lines_to s f b i) (lines_from s f b i n) (36 * i) (length-lines s f b i) h)

-- ---- the fields of the waters: one more of them

pub fields_more : (s : Sheet) (k x : ℕ) (fields : List ℕ) → k < length fields → FieldsTo s k fields → x ≡ word (kilograms (k * s.water.step)) → FieldsTo s (k + 1) (set fields k x)
fields_more s k x fields h f e i l =
    ⊎_elim (λ (z : i ≡ k). rw (z, get_or-set_same fields k x 0 h) e)
    (λ (z : i < k). rw (get_or-set_other fields k i x 0 (omega arith)) (f i z))
    (eq-or-lt_of_le (omega arith))
