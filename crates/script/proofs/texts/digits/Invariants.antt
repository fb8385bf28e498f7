-- `script::texts::digits`: the digits that came are in the number.
use Rattle.std.proofs.Common.{◌≡◌, drop}
use Rattle.script.specs.Digits.{digits_from}
use Rattle.script.proofs.texts.digits.Given as goal

abbrev pub invariant-loop-x : goal.invariant-loop-x
invariant-loop-x l = digits_from 0 l.s ≡ digits_from l.n (drop l.x-index l.s)
