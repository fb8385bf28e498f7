-- `numerals::put_digits` meets its contract. The loop's invariant: the digits from `place` on are written. Assumes nothing.
use Rattle.std.proofs.Common.{refl, ap, ◌∙◌, length-append, ℕ, ◌+◌, length, arith}
use Rattle.paper.specs.Placard.{nought}
use Rattle.numerals.proofs.Digits.{digit_more, digits_all}
use Rattle.numerals.proofs.put_digits.Goals as goal

pub loop-place-preserved : goal.loop-place-preserved
loop-place-preserved g c =
    let l = c.loop-place in
    let text = c.push.ensures.ascii (omega arith) in
    let digit = c.from.ensures ∙ ap (λ (d : ℕ). nought + d) c.digit_at.ensures.0 in (
      omega (arith, ap length text, length-append {A = ℕ}),
      digit_more c.args.n l.place _ c.from.result l.text.bytes c.push.new.self.bytes (omega arith) refl digit text ∙ l.invariant.1,
    )

pub returns : goal.returns
returns g c =
    let l = c.loop-place in
    digits_all c.args.n l.place l.text.bytes _ (omega arith) l.invariant.1
