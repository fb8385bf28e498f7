-- What the table of cases does not say: mistakes that the paper warns of, rows for nobody, the files of G, of K, of a paired
-- weighing and of a seat in each version, and a journal. Each is computed from the definitions.
use Rattle.std.specs.Prelude.{◌≡◌, refl, Bool, true, false, ◌&&◌, Some, List, [], ◌∷◌, ◌++◌, ℕ, ℤ, pos, take, replicate, Ok}
use Rattle.std.proofs.Math.Option.{Option, none, some, or_else, bind}
use Rattle.laws.specs.Lists.{Each}
use Rattle.paper.specs.declared.Sheet.{Sheet}
use Rattle.paper.specs.declared.Weighing.{Weighing}
use Rattle.paper.specs.declared.Entry.{Entry}
use Rattle.paper.specs.declared.Entry.TheVariants as entry
use Rattle.paper.specs.Units.{is_weight, is_arm, half_grams}
use Rattle.paper.specs.Record.{Balance, total_of, moment_of, alike, paired, weighed, with, changes_of, last_weighing, balance_of, sheet_of, is_none, sheet_stands}
use Rattle.paper.specs.Rows.{Row, laden, at_most, lines, all, any_fails, keeps_at, breaks_at, is_step, smallest, largest, row_of, joined, row_count}
use Rattle.paper.specs.File.{bytes_of, number_of, field_bytes, field_value, layout_of, entry_of, fields_bytes, entry_bytes, body_as, file_as, file_bytes, take_number, take_fields, take_entry, take_entries, is_version, last_kind, kinds_to, take_body, laid_out}
use Rattle.paper.specs.Refusals.{first_number, full, bad_reading, bad_distance, bad_part, weighing_faults, weighing_number, bad_arms, bad_ranges, bad_rows, sheet_faults, sheet_number, change_faults, change_number, bad_ends, seat_faults, seat_number}
use Rattle.paper.specs.Refusals.{undo_number, entry_number, accepted_after, accepted, file_of, reading_number}
use Rattle.paper.specs.Journal as journal
use Rattle.paper.specs.Journal.{Call, weigh, pair, install, change, undo, read, call_number, without_last, accepted_call, after_by, journal_by, numbers_by, journal, numbers}
use Rattle.worked.specs.Plates.{minus, blanik, blanik_sheet, astir, astir_sheet, G, pair_of, astir_pair, seat, spare_sheet, spare}
use Rattle.worked.specs.Table.{Case, places, printed, Says, each_passes, each_told}

-- ---- judging water with the tank full only: G's second row would begin at 64 kg, and that step breaks a limit with none

full_only : Sheet → ℤ → Balance → ℕ → ℕ → Row
unfolding row_of smallest largest is_step keeps_at all lines laden with at_most half_grams
full_only s arm b r w = row_of (λ (p : ℕ). is_step s p && keeps_at s arm b r p w) s.front.most

full_only_lem : full_only (astir_sheet (minus 47500)) (minus 47500) (weighed (alike astir)) 0 50000 ≡ Some (64000, 92000)
unfolding full_only weighed total_of moment_of
full_only_lem = refl

broken_empty : breaks_at (astir_sheet (minus 47500)) (minus 47500) (weighed (alike astir)) 0 64000 0 ≡ true
unfolding breaks_at any_fails lines laden with at_most half_grams weighed total_of moment_of
broken_empty = refl

-- ---- judging a seat by one arm only: with G's seat from -200,000 to -20,000 a load of 60 kg keeps every limit in the middle and
-- breaks one at each end, FWD's line at the lower and the safe aft limit's at the higher. From -160,000 to -35,000 each end has
-- loads that keep every limit there, and the other end breaks for them

at : ℤ → ℕ → List Bool
unfolding lines laden with at_most half_grams weighed total_of moment_of
at arm p = lines (astir_sheet (minus 47500)) arm (weighed (alike astir)) 0 p 0

middle_good : at (minus 110000) 60000 ≡ true ∷ true ∷ true ∷ true ∷ true ∷ true ∷ []
unfolding at
middle_good = refl

lower_breaks : at (minus 200000) 60000 ≡ true ∷ true ∷ true ∷ true ∷ false ∷ true ∷ []
unfolding at
lower_breaks = refl

higher_breaks : at (minus 20000) 60000 ≡ true ∷ true ∷ true ∷ true ∷ true ∷ false ∷ []
unfolding at
higher_breaks = refl

-- 58 kg at the one end and 85 kg at the other
each_end_alone : (at (minus 160000) 58000 ≡ true ∷ true ∷ true ∷ true ∷ true ∷ true ∷ []) × (at (minus 35000) 85000 ≡ true ∷ true ∷ true ∷ true ∷ true ∷ true ∷ [])
unfolding at
each_end_alone = (refl, refl)

not_the_other : (at (minus 35000) 58000 ≡ true ∷ true ∷ true ∷ true ∷ true ∷ false ∷ []) × (at (minus 160000) 85000 ≡ true ∷ true ∷ true ∷ true ∷ false ∷ true ∷ [])
unfolding at
not_the_other = (refl, refl)

-- ---- nobody in the front seat: 0 is a step, but the rows begin at the next one. Where rear load or water takes all that is to
-- spare 0 alone would keep the limits; that row is blank, and counted

nobody_is_a_step : is_step spare_sheet 0 ≡ true
unfolding is_step
nobody_is_a_step = refl

abbrev nobody : List Case
nobody =
    places spare (replicate 216 7) (Ok (record { bytes = 216; rows = 6; blank = 4 })) (printed (
    "0000.000 0000.000 0000.025 0000.050" ∷
    "0000.000 0000.050 -------- --------" ∷
    "0000.025 0000.000 0000.025 0000.025" ∷
    "0000.025 0000.050 -------- --------" ∷
    "0000.050 0000.000 -------- --------" ∷
    "0000.050 0000.050 -------- --------" ∷ []
    )) ∷ []

rows_for_nobody : Each Says nobody
unfolding each_passes
rows_for_nobody = each_told nobody refl

-- ---- a pair of equal readings is the plain weighing

pair_of-equals : (w : Weighing) → paired (pair_of w w.p w.q) ≡ alike w
pair_of-equals w = refl

-- ---- G's file in a version: written in the second and read back in both

G_file : ℕ → List ℕ
G_file v =
    0 ∷ 0 ∷ 0 ∷ 85 ∷ v ∷ 2 ∷ 1 ∷ 1 ∷ 0 ∷ 4 ∷ 101 ∷ 0 ∷ 0 ∷ 0 ∷ 0 ∷ 0 ∷ 0 ∷ 0 ∷
    247 ∷ 102 ∷ 0 ∷ 7 ∷ 161 ∷ 32 ∷ 0 ∷ 2 ∷ 34 ∷ 224 ∷ 2 ∷ 0 ∷ 0 ∷ 97 ∷ 168 ∷ 0 ∷ 0 ∷ 166 ∷
    4 ∷ 0 ∷ 5 ∷ 204 ∷ 96 ∷ 0 ∷ 6 ∷ 221 ∷ 208 ∷ 0 ∷ 3 ∷ 169 ∷ 128 ∷ 255 ∷ 255 ∷ 70 ∷ 116 ∷ 0 ∷
    0 ∷ 214 ∷ 216 ∷ 0 ∷ 1 ∷ 173 ∷ 176 ∷ 0 ∷ 0 ∷ 3 ∷ 232 ∷ 0 ∷ 0 ∷ 0 ∷ 0 ∷ 0 ∷ 0 ∷ 0 ∷
    0 ∷ 0 ∷ 0 ∷ 0 ∷ 1 ∷ 0 ∷ 0 ∷ 117 ∷ 48 ∷ 0 ∷ 1 ∷ 134 ∷ 160 ∷ 0 ∷ 0 ∷ 195 ∷ 80 ∷ []

G_written : file_bytes G ≡ G_file 2
unfolding file_as body_as entry_bytes fields_bytes field_bytes bytes_of layout_of joined G_file
G_written = refl

-- the list that some bytes are the file of
read_back : List ℕ → Option (List Entry)
unfolding file_of laid_out take_body is_version last_kind kinds_to take_entries take_entry take_fields take_number number_of field_value layout_of entry_of bind accepted accepted_after entry_number weighing_number sheet_number change_number seat_number weighing_faults sheet_faults change_faults seat_faults bad_ends sheet_stands sheet_of or_else is_none first_number full bad_reading bad_distance bad_part bad_arms bad_ranges bad_rows row_count is_weight is_arm total_of
read_back xs = file_of xs

G_read : read_back (G_file 2) ≡ some G
unfolding read_back G_file
G_read = refl

G_read_first : read_back (G_file 1) ≡ some G
unfolding read_back G_file
G_read_first = refl

-- a version that there is not
G_third : read_back (G_file 3) ≡ none
unfolding read_back G_file
G_third = refl

-- a byte left over, and a byte too few
G_longer : read_back (G_file 2 ++ 0 ∷ []) ≡ none
unfolding read_back G_file
G_longer = refl

G_shorter : read_back (take 88 (G_file 2)) ≡ none
unfolding read_back G_file
G_shorter = refl

-- ---- K's file, which the table has written: read back in both versions

K_file : ℕ → List ℕ
K_file v = 0 ∷ 0 ∷ 0 ∷ 2 ∷ v ∷ 0 ∷ []

K_read : read_back (K_file 2) ≡ some []
unfolding read_back K_file
K_read = refl

K_read_first : read_back (K_file 1) ≡ some []
unfolding read_back K_file
K_read_first = refl

-- ---- the file of a paired weighing: the first version does not have that kind

pair_file : ℕ → List ℕ
pair_file v =
    0 ∷ 0 ∷ 0 ∷ 32 ∷ v ∷ 1 ∷ 4 ∷ 1 ∷ 0 ∷ 4 ∷ 101 ∷ 0 ∷ 0 ∷ 0 ∷ 0 ∷ 0 ∷ 0 ∷ 4 ∷ 101 ∷ 1 ∷
    0 ∷ 0 ∷ 0 ∷ 0 ∷ 0 ∷ 0 ∷ 247 ∷ 102 ∷ 0 ∷ 7 ∷ 161 ∷ 32 ∷ 0 ∷ 2 ∷ 34 ∷ 224 ∷ []

pair_written : file_bytes (entry.Paired astir_pair ∷ []) ≡ pair_file 2
unfolding file_as body_as entry_bytes fields_bytes field_bytes bytes_of layout_of joined pair_file
pair_written = refl

pair_read : read_back (pair_file 2) ≡ some (entry.Paired astir_pair ∷ [])
unfolding read_back pair_file
pair_read = refl

pair_first : read_back (pair_file 1) ≡ none
unfolding read_back pair_file
pair_first = refl

pair_third : read_back (pair_file 3) ≡ none
unfolding read_back pair_file
pair_third = refl

-- ---- the file of a sheet and a seat, from -50,000 to 45,000: the first version does not have that kind, and no file has a seat
-- before its sheet

seat-bytes : List ℕ
seat-bytes = 5 ∷ 255 ∷ 255 ∷ 60 ∷ 176 ∷ 0 ∷ 0 ∷ 175 ∷ 200 ∷ []

sheet-bytes : List ℕ
sheet-bytes =
    2 ∷ 0 ∷ 0 ∷ 97 ∷ 168 ∷ 0 ∷ 0 ∷ 166 ∷
    4 ∷ 0 ∷ 5 ∷ 204 ∷ 96 ∷ 0 ∷ 6 ∷ 221 ∷ 208 ∷ 0 ∷ 3 ∷ 169 ∷ 128 ∷ 255 ∷ 255 ∷ 70 ∷ 116 ∷ 0 ∷
    0 ∷ 214 ∷ 216 ∷ 0 ∷ 1 ∷ 173 ∷ 176 ∷ 0 ∷ 0 ∷ 3 ∷ 232 ∷ 0 ∷ 0 ∷ 0 ∷ 0 ∷ 0 ∷ 0 ∷ 0 ∷
    0 ∷ 0 ∷ 0 ∷ 0 ∷ 1 ∷ 0 ∷ 0 ∷ 117 ∷ 48 ∷ 0 ∷ 1 ∷ 134 ∷ 160 ∷ 0 ∷ 0 ∷ 195 ∷ 80 ∷ []

seat_file : ℕ → List ℕ
unfolding seat-bytes sheet-bytes
seat_file v = 0 ∷ 0 ∷ 0 ∷ 72 ∷ v ∷ 2 ∷ sheet-bytes ++ seat-bytes

seated : List Entry
seated = entry.Sheet (astir_sheet (minus 47500)) ∷ seat (minus 50000) (pos 45000) ∷ []

seat-written : file_bytes seated ≡ seat_file 2
unfolding file_as body_as entry_bytes fields_bytes field_bytes bytes_of layout_of joined seat_file seated
seat-written = refl

seat_read : read_back (seat_file 2) ≡ some seated
unfolding read_back seat_file seated
seat_read = refl

seat_first : read_back (seat_file 1) ≡ none
unfolding read_back seat_file
seat_first = refl

seat_alone : read_back (0 ∷ 0 ∷ 0 ∷ 11 ∷ 2 ∷ 1 ∷ seat-bytes) ≡ none
unfolding read_back seat-bytes
seat_alone = refl

-- ---- the journal: a change before a weighing, a weighing, a paired weighing whose n is above the smaller total, one that is
-- accepted, a seat before a sheet whose ends are reversed too, a sheet, reversed ends, a seat of one arm, taking back, reading K,
-- and taking back from nothing

calls : List Call
calls =
    change (record { c = pos 1; arm = pos 0; flag = 0 }) ∷
    weigh blanik ∷
    pair (record { m = 1; p = 288000; q = 0; p2 = 287999; q2 = 0; a = pos 63334; b = 500000; n = 288000 }) ∷
    pair astir_pair ∷
    journal.seat (record { lower = pos 1; higher = pos 0 }) ∷
    install blanik_sheet ∷
    journal.seat (record { lower = pos 1; higher = pos 0 }) ∷
    journal.seat (record { lower = pos 1; higher = pos 1 }) ∷
    undo ∷
    read (K_file 2) ∷
    undo ∷ []

calls_numbers : numbers calls ≡ 7 ∷ 0 ∷ 3 ∷ 0 ∷ 8 ∷ 0 ∷ 2 ∷ 0 ∷ 0 ∷ 0 ∷ 10 ∷ []
unfolding numbers numbers_by call_number after_by accepted_call without_last undo_number reading_number read_back balance_of last_weighing changes_of calls K_file
calls_numbers = refl

calls_journal : journal calls ≡ []
unfolding journal journal_by call_number after_by accepted_call without_last undo_number reading_number read_back balance_of last_weighing changes_of calls K_file
calls_journal = refl
