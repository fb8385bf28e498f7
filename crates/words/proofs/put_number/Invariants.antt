-- `words::put_number` meets its contract. The loop's invariant: the bytes from `i` on are written, and `rest` is the number without
-- them. Assumes nothing.
use Rattle.std.proofs.Common.{◌≡◌, ◌-◌, ◌/◌, ◌^◌, length}
use Rattle.laws.specs.Spelled.{put_from}
use Rattle.format.specs.Numbers.{bytes}
use Rattle.words.proofs.put_number.Given as goal

abbrev pub invariant-loop-i : goal.invariant-loop-i
invariant-loop-i l =
    let k = length l.fn.out in
    (l.rest ≡ l.n / 256 ^ (k - l.i)) × (l.out ≡ put_from bytes l.fn.out 0 k l.n l.i)
