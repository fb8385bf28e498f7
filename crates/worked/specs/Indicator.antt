-- What an indicator sends, worked through: the grams of floats by their patterns, what is no load, and weighings with the numbers
-- that they get. Each is computed from the definitions.
use Rattle.std.specs.Prelude.{◌≡◌, refl, false, cond, Option, Some, None, List, [], ◌∷◌, ◌++◌, map, ℕ, pos, take, replicate, from_bits}
use Rattle.std.specs.Float.{fin, binary64}
use lib.Ieee.{of_bits, lt}
use Rattle.paper.specs.declared.Reading.TheVariants.{Stable, Over}
use Rattle.paper.specs.declared.Entry.{Entry}
use Rattle.paper.specs.declared.Entry.TheVariants as entry
use Rattle.paper.specs.Units.{is_weight, is_arm}
use Rattle.paper.specs.Record.{total_of}
use Rattle.paper.specs.File.{bytes_of, number_of}
use Rattle.paper.specs.Indicator.{is_load, grams, reading_of, Sent, kilograms_of, net, unsteady, bad_load, out_of_range, net_of, SentWeighing, paired_of}
use Rattle.paper.specs.Refusals.{first_number, full, bad_reading, bad_distance, bad_part, weighing_faults, indicator_faults, indicator_number}
use Rattle.paper.specs.Journal.{Call, indicate, call_number, accepted_call, after_by, journal_by, numbers_by, journal, numbers}
use Rattle.worked.specs.Plates.{astir}

-- ---- floats by their patterns

-- the grams of a pattern that is a load
pub told : ℕ → Option ℕ
unfolding is_load grams lt
told pattern =
    let x = from_bits binary64 pattern in
    cond (is_load x) (Some (grams x)) None

-- the floats of 0.0025, 0.0005 and 0.0055 kg, of which the first two lie above 2.5 and 0.5 g and the third below 5.5; the float
-- before that of 0.0005; 0.0625 and 0.1875, which are ties; nought, minus nought and the least float above them; 2000. Then what
-- is no load: the next floats above 2000 and below nought, the infinities, two NaNs
abbrev pub floats : List (ℕ × Option ℕ)
floats =
    (0x3f64_7ae1_47ae_147b, Some 3) ∷
    (0x3f40_624d_d2f1_a9fc, Some 1) ∷
    (0x3f76_872b_020c_49ba, Some 5) ∷
    (0x3f40_624d_d2f1_a9fb, Some 0) ∷
    (0x3fb0_0000_0000_0000, Some 62) ∷
    (0x3fc8_0000_0000_0000, Some 188) ∷
    (0, Some 0) ∷
    (0x8000_0000_0000_0000, Some 0) ∷
    (1, Some 0) ∷
    (0x409f_4000_0000_0000, Some 2000000) ∷
    (0x409f_4000_0000_0001, None) ∷
    (0x8000_0000_0000_0001, None) ∷
    (0x7ff0_0000_0000_0000, None) ∷
    (0xfff0_0000_0000_0000, None) ∷
    (0x7ff8_0000_0000_0000, None) ∷
    (0xfff0_0000_0000_0001, None) ∷ []

pub floats_told : map (λ (x : ℕ × Option ℕ). told x.0) floats ≡ map (λ (x : ℕ × Option ℕ). x.1) floats
unfolding told of_bits
floats_told = refl

-- ---- messages

-- a state, and a float's pattern in eight bytes
message : ℕ → ℕ → List ℕ
unfolding bytes_of
message state pattern = state ∷ bytes_of 8 pattern

-- 2000 kg stable, one that is over, no such state, a byte too few and one too many
said : (reading_of (1 ∷ 64 ∷ 159 ∷ 64 ∷ 0 ∷ 0 ∷ 0 ∷ 0 ∷ 0 ∷ []) ≡ Some (Stable (fin false 125 (pos 4)))) × (reading_of (message 3 1) ≡ Some Over) × (reading_of (message 0 1) ≡ None) × (reading_of (message 4 1) ≡ None) × (reading_of (take 8 (message 1 1)) ≡ None) × (reading_of (message 1 1 ++ 0 ∷ []) ≡ None)
unfolding reading_of number_of of_bits message
said = (refl, refl, refl, refl, refl, refl)

-- ---- weighings

-- the patterns of some kilograms; `below_300` is the float before 300
abbrev kg_0_0004 : ℕ
kg_0_0004 = 0x3f3a_36e2_eb1c_432d

abbrev kg_0_0005 : ℕ
kg_0_0005 = 0x3f40_624d_d2f1_a9fc

abbrev kg_1_0001 : ℕ
kg_1_0001 = 0x3ff0_0068_db8b_ac71

abbrev kg_1_0002 : ℕ
kg_1_0002 = 0x3ff0_00d1_b717_58e2

abbrev kg_5 : ℕ
kg_5 = 0x4014_0000_0000_0000

abbrev kg_20 : ℕ
kg_20 = 0x4034_0000_0000_0000

abbrev below_300 : ℕ
below_300 = 0x4072_bfff_ffff_ffff

abbrev kg_300 : ℕ
kg_300 = 0x4072_c000_0000_0000

abbrev a_nan : ℕ
a_nan = 0x7ff8_0000_0000_0001

-- what a cell of such a rating and zero sends in a state
sent : ℕ → ℕ → ℕ → ℕ → Sent
unfolding message
sent state pattern rated empty =
    record {
      bytes = message state pattern;
      cell = record { rated = from_bits binary64 rated; zero = from_bits binary64 empty };
    }

-- a stable reading of a cell of 300 kg
abbrev of_300 : ℕ → ℕ → Sent
of_300 pattern empty = sent 1 pattern kg_300 empty

abbrev weighing : ℕ → Sent → Sent → Sent → Sent → SentWeighing
weighing m p q p2 q2 = record { m = m; p = p; q = q; p2 = p2; q2 = q2; a = pos 0; b = 1; n = 0 }

-- q and q' alike, with 300 kg on the other cell
abbrev resting : ℕ → Sent → SentWeighing
resting m q = weighing m (of_300 kg_300 0) q (of_300 kg_300 0) q

abbrev pair_of : ℕ → ℕ → ℕ → Entry
pair_of m p q = entry.Paired (record { m = m; p = p; q = q; p2 = p; q2 = q; a = pos 0; b = 1; n = 0 })

-- moving behind a reading that is out of range; 300 kg with a rating a float below and with one of 300; 1.0001 kg over a zero of
-- 1.0002, which are both 1000 g; 0.0004 over 0.0005, nought and a gram; 5 over 20, which method 4 turns round, for q and not for p;
-- and no such method
pub indicated : List Call
unfolding sent
indicated =
    indicate (weighing 1 (of_300 kg_5 kg_20) (of_300 0 0) (of_300 kg_300 0) (sent 2 a_nan kg_300 0)) ∷
    indicate (resting 1 (sent 1 kg_300 below_300 0)) ∷
    indicate (resting 1 (of_300 kg_300 0)) ∷
    indicate (resting 1 (of_300 kg_1_0001 kg_1_0002)) ∷
    indicate (resting 1 (of_300 kg_0_0004 kg_0_0005)) ∷
    indicate (resting 1 (of_300 kg_5 kg_20)) ∷
    indicate (resting 4 (of_300 kg_5 kg_20)) ∷
    indicate (resting 4 (of_300 kg_20 kg_5)) ∷
    indicate (weighing 4 (of_300 kg_5 kg_20) (of_300 kg_5 kg_20) (of_300 kg_300 0) (of_300 kg_5 kg_20)) ∷
    indicate (resting 5 (of_300 kg_5 0)) ∷ []

pub indicated_numbers : numbers indicated ≡ 13 ∷ 14 ∷ 0 ∷ 0 ∷ 14 ∷ 14 ∷ 0 ∷ 14 ∷ 14 ∷ 1 ∷ []
unfolding numbers numbers_by after_by accepted_call call_number indicator_number indicator_faults first_number unsteady out_of_range kilograms_of reading_of number_of bad_load is_load net grams lt of_bits full weighing_faults bad_reading bad_distance bad_part is_weight is_arm total_of paired_of net_of indicated
indicated_numbers = refl

pub indicated_journal : journal indicated ≡ pair_of 1 300000 300000 ∷ pair_of 1 300000 0 ∷ pair_of 4 300000 15000 ∷ []
unfolding journal journal_by after_by accepted_call call_number indicator_number indicator_faults first_number unsteady out_of_range kilograms_of reading_of number_of bad_load is_load net grams lt of_bits full weighing_faults bad_reading bad_distance bad_part is_weight is_arm total_of paired_of net_of indicated
indicated_journal = refl

-- on a full list 13 and 14 go before 9
on_full : SentWeighing → ℕ
on_full x = indicator_number (replicate 64 (entry.Weighing astir)) x

full_numbers : (on_full (resting 1 (sent 3 0 kg_300 0)) ≡ 13) × (on_full (resting 1 (of_300 kg_5 kg_20)) ≡ 14) × (on_full (resting 1 (of_300 kg_20 kg_5)) ≡ 9)
unfolding on_full indicator_number indicator_faults first_number unsteady out_of_range kilograms_of reading_of number_of bad_load is_load net grams lt of_bits full sent
full_numbers = (refl, refl, refl)
