-- `words::signed` meets its contract: a word from the middle on stands for a number below 0. Assumes nothing.
use Rattle.std.proofs.Common.{◌^◌, ◌<◌, ℤ, pos, ◌-ℤ◌, ap, ◌∙◌, arith, to_z-of_z, w64, rules}
use mir.ValLaws.{to_z_pos}
use Rattle.laws.specs.Z.{zs, is_nat, is_sub}
use Rattle.words.proofs.Signs.{from_middle}
use Rattle.words.proofs.signed.Goals as goal

pub overflow_sub-result : goal.overflow_sub-result
overflow_sub-result c =
    let r = c.wrapping_add_u32.result in
    let h : r < 2 ^ 32 = search rules in
    rw (to_z_pos w64 r (omega arith)) (omega (arith, zs, is_sub (is_nat r) (is_nat 2147483648)))

pub returns : goal.returns
returns c =
    let n = c.args.n in
    let r = c.wrapping_add_u32.result in
    let h : n < 2 ^ 32 = search rules in
    let k : r < 2 ^ 32 = search rules in
    let less = ap (λ (z : ℤ). z -ℤ pos 2147483648) (to_z_pos w64 r (omega arith)) in
    to_z-of_z (overflow_sub-result c) ∙ less ∙ from_middle n r h c.wrapping_add_u32.ensures.value
