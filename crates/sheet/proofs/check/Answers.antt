-- `sheet::check` meets its contract: the calls are the definition's conditions, in its order. Assumes nothing.
-- behind the first and the second test their conditions fail
use mathlib.Core.Path.{◌≡◌, sym, ◌∙◌}
use mathlib.Core.Bool.{false}
use Rattle.paper.specs.Refusals.{first_number, bad_arms, bad_ranges, sheet_faults}
use Rattle.sheet.proofs.check.Goals as goal

pub returns-then-bad_arms : goal.returns-then-bad_arms
unfolding first_number sheet_faults
returns-then-bad_arms c = simp (sym c.bad_arms.ensures ∙ c.if-bad_arms.true)

pub returns-then-bad_ranges : goal.returns-then-bad_ranges
unfolding first_number sheet_faults
returns-then-bad_ranges c =
    let arms : bad_arms c.args.s ≡ false = sym c.bad_arms.ensures ∙ c.if-bad_arms.false in
    simp (arms, sym c.bad_ranges.ensures ∙ c.if-bad_ranges.true)

pub returns-then-bad_rows : goal.returns-then-bad_rows
unfolding first_number sheet_faults
returns-then-bad_rows c =
    let arms : bad_arms c.args.s ≡ false = sym c.bad_arms.ensures ∙ c.if-bad_arms.false in
    let within : bad_ranges c.args.s ≡ false = sym c.bad_ranges.ensures ∙ c.if-bad_ranges.false in
    simp (arms, within, sym c.bad_rows.ensures ∙ c.if-bad_rows.true)

pub returns : goal.returns
unfolding first_number sheet_faults
returns c =
    let arms : bad_arms c.args.s ≡ false = sym c.bad_arms.ensures ∙ c.if-bad_arms.false in
    let within : bad_ranges c.args.s ≡ false = sym c.bad_ranges.ensures ∙ c.if-bad_ranges.false in
    simp (arms, within, sym c.bad_rows.ensures ∙ c.if-bad_rows.false)
