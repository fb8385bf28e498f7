-- `WeighingReadings::check` meets its contract: each way out computes the conditions so far. Assumes nothing.
use mathlib.Core.Path.{◌≡◌, sym, ◌∙◌}
use mathlib.Core.Bool.{false}
use Rattle.paper.specs.Refusals.{first_number, bad_reading, bad_distance, weighing_faults}
use Rattle.weighing.proofs.WeighingReadings.check.Goals as goal

pub returns-then-misread : goal.returns-then-misread
unfolding first_number weighing_faults
returns-then-misread c =
    let reading : bad_reading c.args.self ≡ c.bad_reading-misread.result = sym c.bad_reading-misread.ensures in
    simp (reading ∙ c.if-misread.true)

pub returns-then-distance : goal.returns-then-distance
unfolding first_number weighing_faults
returns-then-distance c =
    let distance : bad_distance c.args.self ≡ c.bad_distance-distance.result = sym c.bad_distance-distance.ensures in
    let reading : bad_reading c.args.self ≡ c.bad_reading-misread.result = sym c.bad_reading-misread.ensures in
    let fine : bad_reading c.args.self ≡ false = reading ∙ c.if-misread.false in
    simp (fine, distance ∙ c.if-distance.true)

pub returns-then-bad_nonlifting : goal.returns-then-bad_nonlifting
unfolding first_number weighing_faults
returns-then-bad_nonlifting c =
    let reading : bad_reading c.args.self ≡ c.bad_reading-misread.result = sym c.bad_reading-misread.ensures in
    let fine : bad_reading c.args.self ≡ false = reading ∙ c.if-misread.false in
    let distance : bad_distance c.args.self ≡ c.bad_distance-distance.result = sym c.bad_distance-distance.ensures in
    let near : bad_distance c.args.self ≡ false = distance ∙ c.if-distance.false in
    simp (fine, near, sym c.bad_nonlifting.ensures ∙ c.if-bad_nonlifting.true)

pub returns : goal.returns
unfolding first_number weighing_faults
returns c =
    let reading : bad_reading c.args.self ≡ c.bad_reading-misread.result = sym c.bad_reading-misread.ensures in
    let fine : bad_reading c.args.self ≡ false = reading ∙ c.if-misread.false in
    let distance : bad_distance c.args.self ≡ c.bad_distance-distance.result = sym c.bad_distance-distance.ensures in
    let near : bad_distance c.args.self ≡ false = distance ∙ c.if-distance.false in
    simp (fine, near, sym c.bad_nonlifting.ensures ∙ c.if-bad_nonlifting.false)
