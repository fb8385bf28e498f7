-- `script::texts::spelled`: the bytes so far are spelled.
use Rattle.std.proofs.Common.{◌≡◌, ℕ, ◌+◌, ◌*◌, ◌<◌, slice_index}
use Rattle.script.specs.Digits.{sixteen}
use Rattle.script.proofs.texts.spelled.Given as goal

abbrev pub invariant-loop-i : goal.invariant-loop-i
invariant-loop-i l = (k : ℕ) → k < l.i → slice_index l.bytes k ≡ sixteen (slice_index l.digits (2 * k)) * 16 + sixteen (slice_index l.digits (2 * k + 1))
