-- Equipment by station worked through, and lists that have the same changes in another order: two that calls give, and two of which
-- calls give one alone. Each is computed from the definitions.
use Rattle.std.specs.Prelude.{◌≡◌, refl, true, false, List, [], ◌∷◌, ℕ, ℤ, pos}
use Rattle.std.proofs.Math.Option.{or_else}
use Rattle.std.proofs.lemmas.List.Sorted.{IsPermutation-refl, IsPermutation-swap}
use Rattle.std.proofs.Common.{arith}
use Rattle.paper.specs.declared.Entry.{Entry}
use Rattle.paper.specs.declared.Entry.TheVariants as entry
use Rattle.paper.specs.declared.Equipment.{Equipment}
use Rattle.paper.specs.Units.{is_weight, is_arm, half_grams}
use Rattle.paper.specs.Record.{total_of, moment_of, weighed, with, changed, changed_by, changes_of, last_weighing, balance_of, is_none, sheet_of, sheet_stands}
use Rattle.paper.specs.Equipment.{total, fitted, equipment_at, foremost, arms_to, arms_of, equipment_of, unchanging, stretches, SameButOrder}
use Rattle.paper.specs.Rows.{row_count}
use Rattle.paper.specs.Refusals.{first_number, full, bad_reading, bad_distance, bad_part, weighing_faults, weighing_number, bad_arms, bad_ranges, bad_rows, sheet_faults, sheet_number, bad_ends, seat_faults, seat_number, is_total, is_non_lifting, is_change, afterwards, bad_change, change_faults, change_number, entry_number, accepted_after, accepted}
use Rattle.worked.specs.Plates.{minus, weighing, G, astir, astir_sheet, seat}

change : ℤ → ℤ → ℕ → Entry
change c arm flag = entry.Change (record { c = c; arm = arm; flag = flag })

station : ℤ → ℤ → ℤ → Equipment
station arm weight nonlifting = record { arm = arm; weight = weight; nonlifting = nonlifting }

-- ---- a part behind and a part ahead, one arm with a net of nought, one with parts of both sorts; before the last weighing others

refitted : List Entry
unfolding change
refitted =
    change (pos 300) (pos 2000) 0 ∷ change (pos 1500) (minus 1000) 1 ∷ change (pos 40) (pos 2000) 1 ∷ change (minus 1500) (minus 1000) 1 ∷ change (minus 7) (minus 3000) 0 ∷ []

nose_aft : List Equipment
unfolding station
nose_aft =
    station (minus 3000) (minus 7) (pos 0) ∷ station (minus 1000) (pos 0) (pos 0) ∷ station (pos 2000) (pos 340) (pos 40) ∷ []

by_station : equipment_of (fitted (entry.Weighing astir ∷ change (pos 9000) (pos 100) 1 ∷ entry.Weighing astir ∷ refitted)) ≡ nose_aft
unfolding equipment_of fitted arms_of arms_to foremost equipment_at total last_weighing changes_of or_else refitted nose_aft change station
by_station = refl

-- nothing is fitted behind the last weighing
none_behind : equipment_of (fitted (entry.Weighing astir ∷ change (pos 9000) (pos 100) 1 ∷ G)) ≡ []
unfolding equipment_of fitted arms_of arms_to foremost equipment_at total last_weighing changes_of or_else change
none_behind = refl

-- ---- two lists that calls give, with the same two changes, in turn and before and behind sheet and seat

nose_part : Entry
unfolding change
nose_part = change (pos 4500) (minus 100000) 1

tail_part : Entry
unfolding change
tail_part = change (minus 300) (pos 2000) 0

pub early : List Entry
unfolding nose_part tail_part
early =
    entry.Weighing astir ∷ nose_part ∷ entry.Sheet (astir_sheet (minus 47500)) ∷ tail_part ∷ seat (minus 50000) (pos 45000) ∷ []

pub late : List Entry
unfolding nose_part tail_part
late =
    entry.Weighing astir ∷ entry.Sheet (astir_sheet (minus 47500)) ∷ seat (minus 50000) (pos 45000) ∷ tail_part ∷ nose_part ∷ []

pub early_late : SameButOrder early late
unfolding unchanging stretches early late nose_part tail_part change
early_late =
    record {
      others = refl;
      changes = (IsPermutation-refl [], (IsPermutation-swap _ _ 0 1 (omega arith) (omega arith) refl, tt));
    }

pub early_accepted : accepted early ≡ true
unfolding accepted accepted_after entry_number weighing_number sheet_number change_number seat_number weighing_faults sheet_faults change_faults seat_faults bad_ends sheet_stands sheet_of first_number full bad_reading bad_distance bad_part bad_arms bad_ranges bad_rows row_count is_weight is_arm total_of moment_of weighed with changed changed_by changes_of last_weighing balance_of is_none is_total is_non_lifting is_change afterwards bad_change half_grams or_else early nose_part tail_part change
early_accepted = refl

pub late_accepted : accepted late ≡ true
unfolding accepted accepted_after entry_number weighing_number sheet_number change_number seat_number weighing_faults sheet_faults change_faults seat_faults bad_ends sheet_stands sheet_of first_number full bad_reading bad_distance bad_part bad_arms bad_ranges bad_rows row_count is_weight is_arm total_of moment_of weighed with changed changed_by changes_of last_weighing balance_of is_none is_total is_non_lifting is_change afterwards bad_change half_grams or_else late nose_part tail_part change
late_accepted = refl

-- ---- G 10: 5 more and then 12 less is accepted, 12 less first is refused as 6

pub ten : Entry
ten = entry.Weighing (weighing 1 10 0 (pos 0) 1)

pub twelve_less : Entry
unfolding change
twelve_less = change (minus 12) (pos 0) 0

pub more_first : List Entry
unfolding change ten twelve_less
more_first = ten ∷ change (pos 5) (pos 0) 0 ∷ twelve_less ∷ []

pub less_first : List Entry
unfolding change ten twelve_less
less_first = ten ∷ twelve_less ∷ change (pos 5) (pos 0) 0 ∷ []

pub same_changes : SameButOrder more_first less_first
unfolding unchanging stretches more_first less_first ten twelve_less change
same_changes =
    record {
      others = refl;
      changes = (IsPermutation-refl [], (IsPermutation-swap _ _ 0 1 (omega arith) (omega arith) refl, tt));
    }

pub more_first_accepted : accepted more_first ≡ true
unfolding accepted accepted_after entry_number weighing_number change_number weighing_faults change_faults first_number full bad_reading bad_distance bad_part is_weight is_arm total_of moment_of weighed with changed changed_by changes_of last_weighing balance_of is_none is_total is_non_lifting is_change afterwards bad_change half_grams or_else more_first ten twelve_less change
more_first_accepted = refl

pub less_first_number : entry_number (ten ∷ []) twelve_less ≡ 6
unfolding entry_number change_number change_faults first_number full is_arm total_of moment_of weighed with changed changed_by changes_of last_weighing balance_of is_none is_total is_non_lifting is_change afterwards bad_change half_grams or_else ten twelve_less change
less_first_number = refl

pub less_first_refused : accepted less_first ≡ false
unfolding accepted accepted_after entry_number weighing_number change_number weighing_faults change_faults first_number full bad_reading bad_distance bad_part is_weight is_arm total_of moment_of weighed with changed changed_by changes_of last_weighing balance_of is_none is_total is_non_lifting is_change afterwards bad_change half_grams or_else less_first ten twelve_less change
less_first_refused = refl
