-- "The record": what a list of entries says. G, M and n, the empty centre of gravity, the sheet in force and the seat in force,
-- all of the list alone, its first entry first.
use Rattle.std.specs.Prelude.{Bool, true, false, cond, not, List, [], ◌∷◌, ℕ, ◌*◌, eqb, ℤ, pos, nat_abs, ◌+ℤ◌, ◌-ℤ◌, ◌*ℤ◌}
use Rattle.std.proofs.Math.Option.{Option, none, some, map, or_else}
use Rattle.std.specs.Int.Signed.{shr_z}
use Rattle.paper.specs.declared.Weighing.{Weighing}
use Rattle.paper.specs.declared.Paired.{Paired}
use Rattle.paper.specs.declared.Sheet.{Sheet}
use Rattle.paper.specs.declared.Change.{Change}
use Rattle.paper.specs.declared.Seat.{Seat}
use Rattle.paper.specs.declared.Entry.{Entry}
use Rattle.paper.specs.declared.Entry.TheVariants as entry
use Rattle.paper.specs.Units.{half_grams}

-- the paper's G, M and n, in half grams
pub record Balance : Type 0 where
  pub total : ℤ
  pub moment : ℤ
  pub non_lifting : ℤ

-- one of four by the method of a weighing; a method beyond 4 goes with 4, and no call accepts it
abbrev pub by_method : {A : Type 0} → ℕ → A → A → A → A → A
by_method m first second third fourth = cond (eqb m 1) first (cond (eqb m 2) second (cond (eqb m 3) third fourth))

-- ---- one reading, in grams

-- G of a weighing: p is the total in methods 1 and 2; two slings add up; the lift is taken from the platform's reading
unfoldable pub total_of : Weighing → ℤ
total_of w = by_method w.m (pos w.p) (pos w.p) (pos w.p +ℤ pos w.q) (pos w.p -ℤ pos w.q)

-- M of a weighing: 1: p·a + q·b;  2: (p − q)·b − p·a;  3: q·b − G·a;  4: G·a − q·b
unfoldable pub moment_of : Weighing → ℤ
moment_of w =
    by_method w.m
    (pos w.p *ℤ w.a +ℤ pos w.q *ℤ pos w.b)
    ((pos w.p -ℤ pos w.q) *ℤ pos w.b -ℤ pos w.p *ℤ w.a)
    (pos w.q *ℤ pos w.b -ℤ total_of w *ℤ w.a)
    (total_of w *ℤ w.a -ℤ pos w.q *ℤ pos w.b)

-- ---- what was weighed, in half grams

-- the two readings of a glider that count together
pub record Readings : Type 0 where
  pub first : Weighing
  pub second : Weighing

-- a plain weighing counts as the pair of itself with itself
abbrev pub alike : Weighing → Readings
alike w = record { first = w; second = w }

-- a paired weighing is two plain ones with the same m, a, b and n: one with p and q, one with p' and q'
abbrev pub paired : Paired → Readings
paired x =
    record {
      first = record { m = x.m; p = x.p; q = x.q; a = x.a; b = x.b; n = x.n };
      second = record { m = x.m; p = x.p2; q = x.q2; a = x.a; b = x.b; n = x.n };
    }

-- what two readings say: G, M and n are the sums over both
unfoldable pub weighed : Readings → Balance
weighed x =
    record {
      total = total_of x.first +ℤ total_of x.second;
      moment = moment_of x.first +ℤ moment_of x.second;
      non_lifting = pos x.first.n +ℤ pos x.second.n;
    }

-- a balance with c grams more at an arm; whether they are a non-lifting part
unfoldable pub with : Balance → ℤ → ℤ → Bool → Balance
with b c arm part =
    record {
      total = b.total +ℤ half_grams c;
      moment = b.moment +ℤ half_grams c *ℤ arm;
      non_lifting = b.non_lifting +ℤ cond part (half_grams c) (pos 0);
    }

-- what a change makes of it: c more at its arm, a non-lifting part where the flag is 1
unfoldable pub changed : Balance → Change → Balance
changed b x = with b x.c x.arm (eqb x.flag 1)

-- what a run of changes makes of it
unfoldable pub changed_by : Balance → List Change → Balance
changed_by b [] = b
changed_by b (x ∷ xs) = changed_by (changed b x) xs

-- the changes of a list, in its order
unfoldable pub changes_of : List Entry → List Change
changes_of [] = []
changes_of (entry.Weighing w ∷ es) = changes_of es
changes_of (entry.Sheet s ∷ es) = changes_of es
changes_of (entry.Change x ∷ es) = x ∷ changes_of es
changes_of (entry.Paired x ∷ es) = changes_of es
changes_of (entry.Seat f ∷ es) = changes_of es

-- a weighing, plain or paired, with the changes behind it
abbrev pub opened : Entry → List Change → Option (Readings × List Change)
opened (entry.Weighing w) xs = some (alike w, xs)
opened (entry.Sheet s) xs = none
opened (entry.Change x) xs = none
opened (entry.Paired x) xs = some (paired x, xs)
opened (entry.Seat f) xs = none

-- the last weighing of a list with the changes behind it, none where the list has no weighing
unfoldable pub last_weighing : List Entry → Option (Readings × List Change)
last_weighing [] = none
last_weighing (e ∷ es) = or_else (last_weighing es) (opened e (changes_of es))

-- G, M and n of a list: those of its last weighing and the changes behind it
unfoldable pub balance_of : List Entry → Option Balance
balance_of es = map (λ (x : Readings × List Change). changed_by (weighed x.0) x.1) (last_weighing es)

-- the empty centre of gravity: M/G to the nearest unit, halves towards the tail, so M/G + 1/2 rounded down
unfoldable pub centre_of : Balance → ℤ
centre_of b = shr_z (pos 2 *ℤ b.moment +ℤ b.total) (2 * nat_abs b.total)

-- a sheet
abbrev pub as_sheet : Entry → Option Sheet
as_sheet (entry.Weighing w) = none
as_sheet (entry.Sheet s) = some s
as_sheet (entry.Change x) = none
as_sheet (entry.Paired x) = none
as_sheet (entry.Seat f) = none

-- the sheet in force: the last of the list
unfoldable pub sheet_of : List Entry → Option Sheet
sheet_of [] = none
sheet_of (e ∷ es) = or_else (sheet_of es) (as_sheet e)

unfoldable pub is_none : {A : Type 0} → Option A → Bool
is_none none = true
is_none (some x) = false

-- a weighing, or a sheet, stands when the list has one
unfoldable pub weighing_stands : List Entry → Bool
weighing_stands es = not (is_none (last_weighing es))

unfoldable pub sheet_stands : List Entry → Bool
sheet_stands es = not (is_none (sheet_of es))

-- a seat entry
abbrev pub as_seat : Entry → Option Seat
as_seat (entry.Weighing w) = none
as_seat (entry.Sheet s) = none
as_seat (entry.Change x) = none
as_seat (entry.Paired x) = none
as_seat (entry.Seat f) = some f

-- the seat in force (paper 02, card 4): the last seat entry of the list, unless a sheet stands behind it
unfoldable pub seat_of : List Entry → Option Seat
seat_of [] = none
seat_of (e ∷ es) = or_else (seat_of es) (cond (sheet_stands es) none (as_seat e))

-- the two ends that the arm of a front load lies between: those of the seat in force, which override the sheet's front arm, or
-- that arm twice where there is none
abbrev pub ends_of : Sheet → Option Seat → Seat
ends_of s none = record { lower = s.front.arm; higher = s.front.arm }
ends_of s (some f) = f
