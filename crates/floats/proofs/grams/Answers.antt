-- `floats::grams` meets its contract: what a load's pattern says of its grams. Assumes nothing.
use Rattle.std.specs.Prelude.{◌≡◌, ℕ, ◌-◌, ◌*◌, ◌%◌, ◌^◌, ◌≤◌}
use Rattle.std.proofs.Common.{ap, ◌∙◌, one-mul, shl_exact, lit<, arith}
use Rattle.std.proofs.lemmas.Float.{T_from_true}
use lib.Ieee.Nearest.{closest}
use Rattle.paper.specs.Indicator.{grams}
use Rattle.floats.proofs.Patterns.{exponent, no_gram, exponent_most, by_significand}
use Rattle.floats.proofs.Loads.{load_number, load_finite, load_most}
use Rattle.floats.proofs.grams.Goals as goal

pub float_to_bits-pattern : goal.float_to_bits-pattern
float_to_bits-pattern c = load_number c.args.x c.requires

pub returns-then-exponent-lt-LEAST : goal.returns-then-exponent-lt-LEAST
unfolding grams
returns-then-exponent-lt-LEAST c =
    let x = c.args.x in
    no_gram x (T_from_true _ c.well_formed.0.1) (load_finite x c.requires) c.if-exponent-lt-LEAST.true

pub overflow_sub-exponent : goal.overflow_sub-exponent
overflow_sub-exponent c =
    let x = c.args.x in
    exponent_most x (T_from_true _ c.well_formed.0.1) (load_finite x c.requires) (load_most x c.requires)

-- the unit does not wrap
unit_is : (k : ℕ) → k ≤ 63 → 1 * 2 ^ k % 2 ^ 64 ≡ 2 ^ k
unit_is k h = shl_exact {a = 1} 1 k 64 (lit< tt) (omega arith) ∙ one-mul (2 ^ k)

pub returns : goal.returns
unfolding grams
returns c =
    let x = c.args.x in
    let held = T_from_true _ c.well_formed.0.1 in
    let most = exponent_most x held (load_finite x c.requires) (load_most x c.requires) in
    c.nearest.ensures
    ∙ ap (closest _) (unit_is (1075 - exponent x) (omega (arith, c.if-exponent-lt-LEAST.false)))
    ∙ by_significand x held (load_finite x c.requires) (omega (arith, c.if-exponent-lt-LEAST.false)) most
