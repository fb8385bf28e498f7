-- `numerals::number_of` meets its contract: by whether a minus stands in front. Assumes nothing.
use mathlib.Core.Path.{ap, ◌∙◌}
use native.Mathlib.Omega.{arith}
use lib.IntN.{ℤ, pos, ◌-ℤ◌, +ℤ_idl}
use mir.Facts.{to_z-of_z}
use mir.Syntax.{w64}
use mir.ValLaws.{to_z_pos}
use Rattle.numerals.proofs.Signs.{less_fits, value-minus, value-plain}
use Rattle.numerals.proofs.number_of.Goals as goal

pub returns-in-Some : goal.returns-in-Some
returns-in-Some c =
    let n = c.size_of.result in
    to_z-of_z {w = w64} (less_fits {a = 0} {b = n} (omega arith) (omega arith))
    ∙ ap (λ (z : ℤ). pos 0 -ℤ z) (to_z_pos w64 n (omega arith))
    ∙ +ℤ_idl _
    ∙ value-minus c.args.s.now c.in-Some.digits.now n c.in-Some.ensures.cases.0 c.in-Some.ensures.cases.1 c.size_of.ensures.0

pub returns-in-None : goal.returns-in-None
returns-in-None c =
    let n = c.size_of-in-None.result in
    to_z_pos w64 n (omega arith) ∙ value-plain c.args.s.now n c.in-None.ensures.cases c.size_of-in-None.ensures.0
