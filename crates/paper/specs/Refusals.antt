-- "Numbers of refusal": for each call the conditions of its numbers in its order, and the number that it gets on a list.
use Rattle.std.specs.Prelude.{Bool, true, false, cond, not, ◌&&◌, ◌||◌, List, [], ◌∷◌, ◌++◌, ℕ, leb, ltb, eqb, pos, neg_ℤ, nat_abs, length}
use Rattle.std.proofs.Math.Option.{Option, none, some}
use Rattle.std.specs.Int.Signed.{le_z, lt_z}
use Rattle.paper.specs.declared.Station.{Station}
use Rattle.paper.specs.declared.Weighing.{Weighing}
use Rattle.paper.specs.declared.Sheet.{Sheet}
use Rattle.paper.specs.declared.Change.{Change}
use Rattle.paper.specs.declared.Seat.{Seat}
use Rattle.paper.specs.declared.Entry.{Entry}
use Rattle.paper.specs.declared.Entry.TheVariants as entry
use Rattle.paper.specs.Units.{between, is_weight, is_arm, half_grams}
use Rattle.paper.specs.Record.{Balance, Readings, alike, paired, total_of, changed, balance_of, sheet_of, is_none, sheet_stands}
use Rattle.paper.specs.Equipment.{fitted, equipment_of}
use Rattle.paper.specs.Rows.{row_count}
use Rattle.paper.specs.Placard.{text_length}
use Rattle.paper.specs.File.{file_bytes, laid_out}
use Rattle.paper.specs.Indicator.{SentWeighing, any_of, unsteady, out_of_range, paired_of}

-- a number of refusal and whether its condition holds
infix 68 ◌when◌
abbrev pub ◌when◌ : ℕ → Bool → ℕ × Bool
n when c = (n, c)

-- the first number of a call's order whose condition holds, 0 where none does
unfoldable pub first_number : List (ℕ × Bool) → ℕ
first_number [] = 0
first_number (x ∷ xs) = cond x.1 x.0 (first_number xs)

-- how many entries a list may have
abbrev pub capacity : ℕ
capacity = 64

-- 9: as many entries stand as may
unfoldable pub full : List Entry → Bool
full es = leb capacity (length es)

-- ---- weighing: 9, 1, 2, 3

-- 1: m not 1..4, p or q not a weight, q above p in methods 1 and 2, or G not 1..2,000,000 g
unfoldable pub bad_reading : Weighing → Bool
bad_reading w =
    not (leb 1 w.m && leb w.m 4) || not (is_weight w.p) || not (is_weight w.q) || ((eqb w.m 1 || eqb w.m 2) && ltb w.p w.q) || not (between (pos 1) (pos 2000000) (total_of w))

-- 2: a not an arm, or b not 1..2,000,000
unfoldable pub bad_distance : Weighing → Bool
bad_distance w = not (is_arm w.a) || not (leb 1 w.b && leb w.b 2000000)

-- 3: n not 0..G
unfoldable pub bad_part : Weighing → Bool
bad_part w = not (between (pos 0) (total_of w) (pos w.n))

-- a condition holds of either reading
abbrev pub either : (Weighing → Bool) → Readings → Bool
either q x = q x.first || q x.second

-- what is asked of a weighing, plain or paired, in its order behind 9: by number, and not reading by reading
unfoldable pub weighing_faults : Readings → List (ℕ × Bool)
weighing_faults x = 1 when either bad_reading x ∷ 2 when either bad_distance x ∷ 3 when either bad_part x ∷ []

unfoldable pub weighing_number : List Entry → Readings → ℕ
weighing_number es x = first_number (9 when full es ∷ weighing_faults x)

-- ---- weighing by an indicator: 13, 14, then those of the paired weighing

-- what is asked of its four readings: 13 of all of them before 14 of any
unfoldable pub indicator_faults : SentWeighing → List (ℕ × Bool)
indicator_faults x = 13 when any_of (λ turned. unsteady) x ∷ 14 when any_of out_of_range x ∷ []

unfoldable pub indicator_number : List Entry → SentWeighing → ℕ
indicator_number es x =
    first_number (indicator_faults x ++ 9 when full es ∷ weighing_faults (paired (paired_of x)))

-- ---- data sheet: 9, 2, 4, 5

-- 2: FWD, AFT or a station's arm is none
unfoldable pub bad_arms : Sheet → Bool
bad_arms s =
    not (is_arm s.fwd && is_arm s.aft && is_arm s.front.arm && is_arm s.rear.arm && is_arm s.water.arm)

-- 4: another range, those of the steps and rows apart: FWD ahead of AFT; DRY, WET, NLP and the tank's capacity weights, DRY
-- at least 1 and at most WET; the front seat's least load at most its greatest; no seat's load above 500,000
unfoldable pub bad_ranges : Sheet → Bool
bad_ranges s =
    not (
    lt_z s.fwd s.aft && leb 1 s.dry && leb s.dry s.wet && is_weight s.dry && is_weight s.wet && is_weight s.nlp && leb s.least s.front.most && leb s.front.most 500000 && leb s.rear.most 500000 && is_weight s.water.most
    )

-- a station's step is 1..most
abbrev pub is_step_to : ℕ → Station → Bool
is_step_to most t = leb 1 t.step && leb t.step most

-- 5: a step out of its range, or over 256 rows
unfoldable pub bad_rows : Sheet → Bool
bad_rows s =
    not (is_step_to 500000 s.front && is_step_to 500000 s.rear && is_step_to 2000000 s.water && leb (row_count s) 256)

-- what is asked of a sheet, in its order behind 9
unfoldable pub sheet_faults : Sheet → List (ℕ × Bool)
sheet_faults s = 2 when bad_arms s ∷ 4 when bad_ranges s ∷ 5 when bad_rows s ∷ []

unfoldable pub sheet_number : List Entry → Sheet → ℕ
sheet_number es s = first_number (9 when full es ∷ sheet_faults s)

-- ---- change: 9, 7, 2, 6, 3

-- a condition of the balance after a change; there is none before a weighing
unfoldable pub afterwards : (Balance → Bool) → Option Balance → Change → Bool
afterwards q none x = false
afterwards q (some b) x = q (changed b x)

-- G is a gram at least and 2,000,000 g at most, and n is 0..G
unfoldable pub is_total : Balance → Bool
is_total b = between (half_grams (pos 1)) (half_grams (pos 2000000)) b.total

unfoldable pub is_non_lifting : Balance → Bool
is_non_lifting b = between (pos 0) b.total b.non_lifting

-- c is not 0 and no more than 2,000,000 either way, and the flag is 0 or 1
unfoldable pub is_change : Change → Bool
is_change x =
    between (neg_ℤ (pos 2000000)) (pos 2000000) x.c && not (eqb (nat_abs x.c) 0) && leb x.flag 1

-- 6: c or the flag is out of its range, or G afterwards
unfoldable pub bad_change : Option Balance → Change → Bool
bad_change o x = not (is_change x) || afterwards (λ b. not (is_total b)) o x

-- what is asked of a change where o is the balance, none of it before a weighing, in its order behind 9
unfoldable pub change_faults : Option Balance → Change → List (ℕ × Bool)
change_faults o x =
    7 when is_none o ∷ 2 when not (is_arm x.arm) ∷ 6 when bad_change o x ∷ 3 when afterwards (λ b. not (is_non_lifting b)) o x ∷ []

unfoldable pub change_number : List Entry → Change → ℕ
change_number es x = first_number (9 when full es ∷ change_faults (balance_of es) x)

-- ---- seat: 9, 8, 2

-- 2: an end is no arm, or the ends are reversed
unfoldable pub bad_ends : Seat → Bool
bad_ends f = not (is_arm f.lower && is_arm f.higher && le_z f.lower f.higher)

-- what is asked of a seat entry, where `sheet` tells whether a sheet stands before it, in its order behind 9
unfoldable pub seat_faults : Bool → Seat → List (ℕ × Bool)
seat_faults sheet f = 8 when not sheet ∷ 2 when bad_ends f ∷ []

unfoldable pub seat_number : List Entry → Seat → ℕ
seat_number es f = first_number (9 when full es ∷ seat_faults (sheet_stands es) f)

-- ---- the calls that take no entry

-- taking back: 10 where the list has no entry
unfoldable pub undo_number : List Entry → ℕ
undo_number es = first_number (10 when eqb (length es) 0 ∷ [])

-- centre of gravity: 7 where the list has no weighing
unfoldable pub centre_number : List Entry → ℕ
centre_number es = first_number (7 when is_none (balance_of es) ∷ [])

-- one of three columns of such lengths is shorter than the equipment of a list
unfoldable pub equipment_too_long : List Entry → ℕ → ℕ → ℕ → Bool
equipment_too_long es i j k =
    let n = length (equipment_of (fitted es)) in
    ltb i n || ltb j n || ltb k n

-- equipment by station into columns of such lengths: 7, 11
unfoldable pub equipment_number : List Entry → ℕ → ℕ → ℕ → ℕ
equipment_number es i j k =
    first_number (7 when is_none (balance_of es) ∷ 11 when equipment_too_long es i j k ∷ [])

-- a buffer of n bytes is shorter than the placard of the sheet in force
unfoldable pub placard_too_long : Option Sheet → ℕ → Bool
placard_too_long none n = false
placard_too_long (some s) n = ltb n (text_length s)

-- placard into a buffer of n bytes: 7, 8, 11
unfoldable pub placard_number : List Entry → ℕ → ℕ
placard_number es n =
    first_number (
    7 when is_none (balance_of es) ∷ 8 when is_none (sheet_of es) ∷ 11 when placard_too_long (sheet_of es) n ∷ []
    )

-- writing into a buffer of n bytes: 11
unfoldable pub writing_number : List Entry → ℕ → ℕ
writing_number es n = first_number (11 when ltb n (length (file_bytes es)) ∷ [])

-- ---- entries in turn

-- the number that an entry gets, by its call
unfoldable pub entry_number : List Entry → Entry → ℕ
entry_number es (entry.Weighing w) = weighing_number es (alike w)
entry_number es (entry.Sheet s) = sheet_number es s
entry_number es (entry.Change x) = change_number es x
entry_number es (entry.Paired x) = weighing_number es (paired x)
entry_number es (entry.Seat f) = seat_number es f

-- entries taken in turn behind a list get no number
unfoldable pub accepted_after : List Entry → List Entry → Bool
accepted_after es [] = true
accepted_after es (f ∷ fs) = eqb (entry_number es f) 0 && accepted_after (es ++ f ∷ []) fs

-- the list is one that accepted calls give
unfoldable pub accepted : List Entry → Bool
accepted es = accepted_after [] es

abbrev pub only_accepted : Option (List Entry) → Option (List Entry)
only_accepted none = none
only_accepted (some es) = cond (accepted es) (some es) none

-- the list that some bytes are the file of: they are laid out as its file, and its entries in turn get no number
unfoldable pub file_of : List ℕ → Option (List Entry)
file_of xs = only_accepted (laid_out xs)

-- reading back: 12 where the bytes are no such file
unfoldable pub reading_number : List ℕ → ℕ
reading_number xs = first_number (12 when is_none (file_of xs) ∷ [])
