-- `script::texts::digits`: each digit that comes is added, and what is no digit ends the number.
use Rattle.std.proofs.Common.{arith, rules, ◌≡◌, sym, ◌∙◌, ◌-◌, ◌<◌, ◌≤◌, true, false, length, get_or}
use Rattle.std.specs.Char.{is_ascii_digit}
use Rattle.script.proofs.Digits.{digit_more, no_digit, no_more}
use Rattle.script.proofs.texts.digits.Goals as goal

pub loop-x-preserved : goal.loop-x-preserved
loop-x-preserved c =
    let lt : c.loop-x.x-index < length c.args.s.now = omega arith in
    let d : is_ascii_digit (get_or c.args.s.now c.loop-x.x-index 0) ≡ true = search rules in
    let v : c.from.result ≡ get_or c.args.s.now c.loop-x.x-index 0 - 48 = search rules in
    rw v (c.loop-x.invariant ∙ digit_more c.loop-x.n c.args.s.now c.loop-x.x-index lt d)

pub returns-after-loop-x : goal.returns-after-loop-x
returns-after-loop-x c =
    let le : length c.args.s.now ≤ c.loop-x.x-index = omega arith in
    sym (c.loop-x.invariant ∙ no_more c.loop-x.n c.args.s.now c.loop-x.x-index le)

pub returns-then-not-is_ascii_digit : goal.returns-then-not-is_ascii_digit
returns-then-not-is_ascii_digit c =
    let lt : c.loop-x.x-index < length c.args.s.now = omega arith in
    let d : is_ascii_digit (get_or c.args.s.now c.loop-x.x-index 0) ≡ false = search rules in
    sym (c.loop-x.invariant ∙ no_digit c.loop-x.n c.args.s.now c.loop-x.x-index lt d)
