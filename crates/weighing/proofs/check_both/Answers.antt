-- `weighing::check_both` meets its contract: each way out computes the conditions so far. Assumes nothing.
use mathlib.Core.Path.{◌≡◌, sym, ◌∙◌, ap₂}
use mathlib.Core.Bool.{◌||◌}
use Rattle.paper.specs.Refusals.{first_number, bad_reading, bad_part, either, weighing_faults}
use Rattle.weighing.specs.Readings.{both}
use Rattle.weighing.proofs.Distances.{first_decides}
use Rattle.weighing.proofs.check_both.Goals as goal

pub returns-then-reading : goal.returns-then-reading
unfolding first_number weighing_faults
returns-then-reading c =
    let reading : either bad_reading (both c.args.first c.args.second) ≡ (c.bad_reading.result || c.bad_reading-2.result) = sym (ap₂ ◌||◌ c.bad_reading.ensures c.bad_reading-2.ensures) in
    simp (reading ∙ c.if-reading.true)

pub returns-then-distance : goal.returns-then-distance
unfolding first_number weighing_faults
returns-then-distance c =
    let reading : either bad_reading (both c.args.first c.args.second) ≡ (c.bad_reading.result || c.bad_reading-2.result) = sym (ap₂ ◌||◌ c.bad_reading.ensures c.bad_reading-2.ensures) in
    let distance = first_decides c.args.first c.args.second c.requires ∙ sym c.bad_distance-distance.ensures in
    simp (reading ∙ c.if-reading.false, distance ∙ c.if-distance.true)

pub returns-then-bad_nonlifting : goal.returns-then-bad_nonlifting
unfolding first_number weighing_faults
returns-then-bad_nonlifting c =
    let reading : either bad_reading (both c.args.first c.args.second) ≡ (c.bad_reading.result || c.bad_reading-2.result) = sym (ap₂ ◌||◌ c.bad_reading.ensures c.bad_reading-2.ensures) in
    let distance = first_decides c.args.first c.args.second c.requires ∙ sym c.bad_distance-distance.ensures in
    let part : either bad_part (both c.args.first c.args.second) ≡ (c.bad_nonlifting.result || c.bad_nonlifting-2.result) = sym (ap₂ ◌||◌ c.bad_nonlifting.ensures c.bad_nonlifting-2.ensures) in
    simp (reading ∙ c.if-reading.false, distance ∙ c.if-distance.false, part ∙ c.if-bad_nonlifting.true)

pub returns : goal.returns
unfolding first_number weighing_faults
returns c =
    let reading : either bad_reading (both c.args.first c.args.second) ≡ (c.bad_reading.result || c.bad_reading-2.result) = sym (ap₂ ◌||◌ c.bad_reading.ensures c.bad_reading-2.ensures) in
    let distance = first_decides c.args.first c.args.second c.requires ∙ sym c.bad_distance-distance.ensures in
    let part : either bad_part (both c.args.first c.args.second) ≡ (c.bad_nonlifting.result || c.bad_nonlifting-2.result) = sym (ap₂ ◌||◌ c.bad_nonlifting.ensures c.bad_nonlifting-2.ensures) in
    simp (reading ∙ c.if-reading.false, distance ∙ c.if-distance.false, part ∙ c.if-bad_nonlifting.false)
