-- `words::put_number` meets its contract. The loop's invariant: the bytes from `i` on are written, and `rest` is the number without
-- them. Assumes nothing.
use Rattle.std.proofs.Common.{◌≡◌, ℕ, ◌+◌, ◌-◌, ◌%◌, length, set, ap, ◌∙◌, arith}
use Rattle.laws.specs.Spelled.{rest_none, rest_more, put_none, put-more, put_all}
use Rattle.laws.specs.Written.{whole-written}
use Rattle.paper.specs.File.{bytes_of}
use Rattle.format.specs.Numbers.{bytes, length-bytes}
use Rattle.words.proofs.put_number.Goals as goal

pub loop-i-init : goal.loop-i-init
loop-i-init c =
    let s = c.args.out.now in
    (rest_none 256 (length s) c.args.n, put_none bytes s 0 (length s) c.args.n)

pub loop-i-preserved : goal.loop-i-preserved
loop-i-preserved c =
    let s = c.args.out.now in
    let n = c.args.n in
    let l = c.loop-i in
    let place : l.i - 1 ≡ 0 + (l.i - 1) = omega arith in (
      rest_more 256 l.i (length s) n l.rest c.loop-i-test.true l.auto.i l.invariant.0,
      ap (λ (k : ℕ). set l.out k (l.rest % 256)) place ∙ put-more bytes s 0 (length s) n l.i l.rest l.out (omega arith) c.loop-i-test.true l.auto.i l.invariant.0 l.invariant.1,
    )

pub returns : goal.returns
returns c =
    let s = c.args.out.now in
    let n = c.args.n in
    c.loop-i.invariant.1
    ∙ put_all bytes s 0 (length s) n c.loop-i.i (omega arith)
    ∙ whole-written s (bytes_of (length s) n) (length-bytes (length s) n)
