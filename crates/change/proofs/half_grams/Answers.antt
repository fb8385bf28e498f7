-- `change::half_grams` meets its contract: the number is read back from its bits and doubled. Assumes nothing.
use native.Mathlib.Omega.{arith}
use lib.IntN.{pos, ◌*ℤ◌}
use mir.Syntax.{w64}
use mir.Val.{SFits}
use Rattle.laws.specs.Z.{zs, rd, back, is_nat, is_int, is_mul}
use Rattle.paper.specs.Units.{half_grams}
use Rattle.change.proofs.half_grams.Goals as goal

pub returns : goal.returns
unfolding half_grams
returns c =
    let double : SFits w64 (pos 2 *ℤ rd c.args.c) = omega (arith, zs, c.requires.0, c.requires.1, back c.ranges.c, is_mul (is_nat 2) (is_int (rd c.args.c))) in
    omega (
      arith,
      zs,
      back (double),
      back c.ranges.c,
      is_mul (is_nat 2) (is_int (rd c.args.c)),
      is_mul (is_nat 2) (is_int c.args.c),
    )
