-- A list with the most arms: a weighing of a gram, and behind it a gram at each of 63 arms. It is accepted, as computed. Assumes
-- nothing.
use Rattle.std.specs.Prelude.{◌≡◌, refl, true, List, ◌∷◌, ℕ, pos, length}
use Rattle.laws.specs.Lists.{tabulate}
use Rattle.std.proofs.Math.Option.{or_else}
use Rattle.paper.specs.declared.Entry.{Entry}
use Rattle.paper.specs.declared.Entry.TheVariants as entry
use Rattle.paper.specs.Units.{is_weight, is_arm, half_grams}
use Rattle.paper.specs.Record.{total_of, moment_of, weighed, with, changed, changed_by, changes_of, last_weighing, balance_of, is_none}
use Rattle.paper.specs.Equipment.{fitted, equipment_of, equipment_at, foremost, arms_to, arms_of, total}
use Rattle.paper.specs.Refusals.{first_number, full, bad_reading, bad_distance, bad_part, weighing_faults, weighing_number, afterwards, is_total, is_non_lifting, is_change, bad_change, change_faults, change_number, entry_number, accepted_after, accepted}

abbrev pub fullest : List Entry
fullest =
    entry.Weighing (record { m = 1; p = 1; q = 0; a = pos 0; b = 1; n = 0 }) ∷ tabulate 63 (λ (i : ℕ). entry.Change (record { c = pos 1; arm = pos i; flag = 0 }))

pub fullest-accepted : accepted fullest ≡ true
unfolding is_weight is_arm half_grams total_of moment_of weighed with changed changed_by changes_of last_weighing balance_of is_none first_number full bad_reading bad_distance bad_part weighing_faults weighing_number afterwards is_total is_non_lifting is_change bad_change change_faults change_number entry_number accepted_after accepted or_else
fullest-accepted = refl

pub fullest-arms : length (equipment_of (fitted fullest)) ≡ 63
unfolding changes_of last_weighing fitted equipment_of equipment_at foremost arms_to arms_of total or_else
fullest-arms = refl
