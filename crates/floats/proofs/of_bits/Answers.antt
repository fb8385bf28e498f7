-- `floats::of_bits` meets its contract: a pattern above the infinity's, its sign apart, is a NaN's. Assumes nothing.
use Rattle.std.specs.Prelude.{◌≡◌, refl, true, T, from_bits}
use Rattle.std.specs.Float.{Float, nan, inf, fin, binary64}
use Rattle.std.proofs.Common.{sym, ◌∙◌, subst, lt-ltb}
use Rattle.std.proofs.lemmas.Float.{not_nan_f64_bits}
use lib.Ieee.{is_nan, div, of_bits}
use lib.Ieee.Bits.{nan_bits_is, nan_bits_above}
use Rattle.floats.proofs.of_bits.Goals as goal

the_nan : (x : Float) → is_nan x ≡ true → nan ≡ x
unfolding is_nan
the_nan nan h = refl
the_nan (inf s) h = absurd (subst T (sym h) tt)
the_nan (fin s m e) h = absurd (subst T (sym h) tt)

nought_over_nought : div binary64 (from_bits binary64 0) (from_bits binary64 0) ≡ nan
unfolding of_bits div
nought_over_nought = refl

pub float_from_bits-result : goal.float_from_bits-result
float_from_bits-result c = not_nan_f64_bits c.args.pattern c.if-pattern-gt-INFINITY.false

pub returns-then-pattern-gt-INFINITY : goal.returns-then-pattern-gt-INFINITY
returns-then-pattern-gt-INFINITY c =
    let n = c.args.pattern in
    nought_over_nought
    ∙ the_nan (from_bits binary64 n) (sym (nan_bits_is binary64 n) ∙ nan_bits_above binary64 n ∙ lt-ltb _ _ c.if-pattern-gt-INFINITY.true)
