-- `Balance::centre` meets its contract: its quotient is the definition's, of numbers read back from their bits. Assumes nothing.
use Rattle.std.proofs.Common.{◌∙◌, pos, ◌+ℤ◌, ◌*ℤ◌, to_z, arith}
use Rattle.std.proofs.lemmas.Int.{ints, to_z-of_z}
use mir.Syntax.{w64}
use Rattle.laws.specs.Z.{rd}
use Rattle.balance.proofs.Rounding.{quotient}
use Rattle.balance.proofs.Balance.centre.Goals as goal

pub returns : goal.returns
returns c =
    let g = to_z w64 c.args.self.total in
    let double = rd (pos 2 *ℤ rd c.value.result) in
    to_z-of_z w64 _ (record { sfits = c.div_euclid.type_inv })
    ∙ quotient c.args.self _ (rd (double +ℤ g)) (rd (pos 2 *ℤ g)) c.div_euclid.ensures (omega (arith, ints)) (omega (arith, ints))
