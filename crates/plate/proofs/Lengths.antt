-- A sheet with 256 rows, the most that there may be: it is accepted, as computed. Assumes nothing.
use mathlib.Core.Path.{◌≡◌, refl}
use lib.IntN.{pos}
use Rattle.paper.specs.declared.Station.{Station}
use Rattle.paper.specs.declared.Sheet.{Sheet}
use Rattle.paper.specs.Units.{is_weight, is_arm}
use Rattle.paper.specs.Rows.{row_count}
use Rattle.paper.specs.Placard.{text_length}
use Rattle.paper.specs.Refusals.{first_number, bad_arms, bad_ranges, bad_rows, sheet_faults}

-- sixteen loads, a gram apart
abbrev sixteen : Station
sixteen = record { arm = pos 0; most = 15; step = 1 }

abbrev pub largest : Sheet
largest =
    record {
      fwd = pos 0;
      aft = pos 1;
      dry = 1;
      wet = 1;
      nlp = 0;
      front = sixteen;
      least = 0;
      rear = sixteen;
      water = sixteen;
    }

pub largest-accepted : first_number (sheet_faults largest) ≡ 0
unfolding first_number sheet_faults bad_arms bad_ranges bad_rows row_count is_arm is_weight
largest-accepted = refl

pub largest-length : text_length largest ≡ 9216
unfolding text_length row_count
largest-length = refl
