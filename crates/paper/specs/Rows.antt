-- "A row": which front loads keep every limit, and what a row prints.
use Rattle.std.specs.Prelude.{Bool, true, false, not, ◌&&◌, ◌||◌, Option, Some, None, is_none, List, [], ◌∷◌, ◌++◌, map, ℕ, zero, suc, ◌+◌, ◌*◌, ◌/◌, ◌%◌, leb, eqb, ℤ, pos, nat_abs, ◌+ℤ◌, ◌-ℤ◌, ◌*ℤ◌, get_or}
use Rattle.std.specs.Option.{option_zip}
use Rattle.std.specs.Int.Signed.{le_z}
use Rattle.paper.specs.declared.Station.{Station}
use Rattle.paper.specs.declared.Sheet.{Sheet}
use Rattle.paper.specs.declared.Seat.{Seat}
use Rattle.paper.specs.Units.{half_grams}
use Rattle.paper.specs.Record.{Balance, with}

-- the balance with rear load r, front load p and water v aboard, the front load at an arm that is named, the others at the
-- sheet's: T is its total, S its moment. Water never counts as non-lifting
unfoldable pub laden : Sheet → ℤ → Balance → ℕ → ℕ → ℕ → Balance
laden s arm b r p v =
    with (with (with b (pos p) arm true) (pos r) s.rear.arm true) (pos v) s.water.arm false

-- what the front load of a row comes on top of, with rear load r and all of water w aboard: G with both, and M with each at its
-- arm. The moment is the one carried down the page (paper 02, card 3)
unfoldable pub total_beside : Balance → ℕ → ℕ → ℤ
total_beside b r w = b.total +ℤ half_grams (pos r) +ℤ half_grams (pos w)

unfoldable pub moment_beside : Sheet → Balance → ℕ → ℕ → ℤ
moment_beside s b r w = b.moment +ℤ half_grams (pos r) *ℤ s.rear.arm +ℤ half_grams (pos w) *ℤ s.water.arm

-- a weight of a balance is at most so many grams
unfoldable pub at_most : ℕ → ℤ → Bool
at_most most g = le_z g (half_grams (pos most))

-- the lines of limits, each as it holds or fails with v aboard and the front load at an arm:
-- somebody in the front seat; the greatest weight without water, and with it; the greatest non-lifting weight, unless that is 0;
-- the moment not ahead of FWD, nor behind the safe aft limit, which is 5 % of the range inside AFT
unfoldable pub lines : Sheet → ℤ → Balance → ℕ → ℕ → ℕ → List Bool
lines s arm b r p v =
    let t = laden s arm b r p v in
    leb 1 p ∷
    at_most s.dry (laden s arm b r p 0).total ∷
    at_most s.wet t.total ∷
    (eqb s.nlp 0 || at_most s.nlp t.non_lifting) ∷
    le_z (s.fwd *ℤ t.total) t.moment ∷
    le_z (pos 20 *ℤ t.moment) ((pos 19 *ℤ s.aft +ℤ s.fwd) *ℤ t.total) ∷ []

unfoldable pub all : List Bool → Bool
all [] = true
all (x ∷ xs) = x && all xs

unfoldable pub any_fails : List Bool → Bool
any_fails [] = false
any_fails (x ∷ xs) = not x || any_fails xs

-- every line holds with v aboard, the front load at an arm
unfoldable pub keeps_at : Sheet → ℤ → Balance → ℕ → ℕ → ℕ → Bool
keeps_at s arm b r p v = all (lines s arm b r p v)

-- a line fails for that v at that arm
unfoldable pub breaks_at : Sheet → ℤ → Balance → ℕ → ℕ → ℕ → Bool
breaks_at s arm b r p v = any_fails (lines s arm b r p v)

-- each of 0, 1, .. n passes a test, and one of them does
unfoldable pub up_to : (ℕ → Bool) → ℕ → Bool
up_to q zero = q zero
up_to q (suc n) = elim (q (suc n)) [ true ↦ up_to q n | false ↦ false ]

unfoldable pub one_to : (ℕ → Bool) → ℕ → Bool
one_to q zero = q zero
one_to q (suc n) = elim (q (suc n)) [ true ↦ true | false ↦ one_to q n ]

-- ---- the arms of a seat

-- how far the higher end lies behind the lower one (which comes first in every accepted list)
abbrev pub travel : Seat → ℕ
travel f = nat_abs (f.higher -ℤ f.lower)

-- every whole arm between the two ends, both included, passes a test
unfoldable pub every_arm : Seat → (ℤ → Bool) → Bool
every_arm f q = up_to (λ (d : ℕ). q (f.lower +ℤ pos d)) (travel f)

-- and some such arm does
unfoldable pub some_arm : Seat → (ℤ → Bool) → Bool
some_arm f q = one_to (λ (d : ℕ). q (f.lower +ℤ pos d)) (travel f)

-- a front load breaks a limit with v aboard: a line fails for that v at some arm of the seat
abbrev pub breaks : Sheet → Seat → Balance → ℕ → ℕ → ℕ → Bool
breaks s f b r p v = some_arm f (λ (arm : ℤ). breaks_at s arm b r p v)

-- ---- which loads a row prints

-- a step: a multiple of the front step from least to greatest; where least is 0, so is 0, a step that breaks a limit
unfoldable pub is_step : Sheet → ℕ → Bool
is_step s p = eqb (p % s.front.step) 0 && leb s.least p && leb p s.front.most

-- a front load at an arm keeps every limit beside rear load r and water w: it is a step, and every line holds with every whole
-- part of the water, from none to all of it
unfoldable pub keeps : Sheet → ℤ → Balance → ℕ → ℕ → ℕ → Bool
keeps s arm b r w p = elim (is_step s p) [ true ↦ up_to (keeps_at s arm b r p) w | false ↦ false ]

-- it is good: it does so at every arm of the seat
abbrev pub good : Sheet → Seat → Balance → ℕ → ℕ → ℕ → Bool
good s f b r w p = every_arm f (λ (arm : ℤ). keeps s arm b r w p)

-- the smallest of the n numbers from p on that passes a test
unfoldable pub smallest : (ℕ → Bool) → ℕ → ℕ → Option ℕ
smallest q zero p = None
smallest q (suc n) p = elim (q p) [ true ↦ Some p | false ↦ smallest q n (suc p) ]

-- the largest of the numbers from n down to 0 that passes it
unfoldable pub largest : (ℕ → Bool) → ℕ → Option ℕ
largest q zero = elim (q zero) [ true ↦ Some zero | false ↦ None ]
largest q (suc n) = elim (q (suc n)) [ true ↦ Some (suc n) | false ↦ largest q n ]

-- a row prints the range of some loads, from the smallest to the largest, or is blank
abbrev pub Row : Type 0
Row = Option (ℕ × ℕ)

-- the row of a test: the smallest and the largest number up to n that passes it, blank where none does
unfoldable pub row_of : (ℕ → Bool) → ℕ → Row
row_of q n = option_zip (smallest q (suc n) 0) (largest q n)

-- the row of rear load r and water w
unfoldable pub row : Sheet → Seat → Balance → ℕ → ℕ → Row
row s f b r w = row_of (good s f b r w) s.front.most

-- a front load is in a printed range: between its two ends, or one of them
abbrev pub in_range : ℕ → Row → Bool
in_range p (Some (lo, hi)) = leb lo p && leb p hi
in_range p None = false

-- a row x that is printed for rear load r and water w misses a step: it is good and in no range of x
abbrev pub misses : Sheet → Seat → Balance → ℕ → ℕ → Row → ℕ → Bool
misses s f b r w x p = good s f b r w p && not (in_range p x)

abbrev pub is_blank : Row → Bool
is_blank x = is_none x

-- ---- the rows of a sheet

-- 0, 1, .. n - 1
unfoldable pub below : ℕ → List ℕ
below zero = []
below (suc n) = below n ++ n ∷ []

-- the loads of a station: the multiples of its step from 0 to the greatest
unfoldable pub loads_of : Station → List ℕ
loads_of t = map (λ (i : ℕ). i * t.step) (below (t.most / t.step + 1))

-- how many rows a sheet has
unfoldable pub row_count : Sheet → ℕ
row_count s = (s.rear.most / s.rear.step + 1) * (s.water.most / s.water.step + 1)

unfoldable pub joined : {A : Type 0} → List (List A) → List A
joined [] = []
joined (x ∷ xs) = x ++ joined xs

-- rear load and water of each row: the rear load varies slowest, the water fastest, both rising
unfoldable pub loads : Sheet → List (ℕ × ℕ)
loads s = joined (map (λ (r : ℕ). map (λ (w : ℕ). (r, w)) (loads_of s.water)) (loads_of s.rear))

-- those of the i-th row, the first being the 0th
abbrev pub rear_of : Sheet → ℕ → ℕ
rear_of s i = (get_or (loads s) i (0, 0)).0

abbrev pub water_of : Sheet → ℕ → ℕ
water_of s i = (get_or (loads s) i (0, 0)).1
