-- `wording::put_number` meets its contract: a space, and behind it at most 21 bytes. Assumes nothing.
use Rattle.std.proofs.Common.{◌≡◌, ◌∷◌, ◌++◌, [], ℕ, length, ap, ◌∙◌, append_assoc, length-append, arith}
use Rattle.paper.specs.Placard.{space}
use Rattle.numerals.specs.Numerals.{numeral}
use Rattle.numerals.proofs.Words.{numeral_most}
use Rattle.wording.proofs.put_number.Goals as goal

pub put_number-requires : goal.put_number-requires
put_number-requires g c =
    omega (arith, ap length (c.push.ensures.ascii (omega arith)), numeral_most (g.I.Number.value c.args.x), length-append {A = ℕ})

pub returns : goal.returns
returns g c =
    let value = g.I.Number.value c.args.x in
    let text : c.put_number.new.text.bytes ≡ c.args.text.now.bytes ++ space ∷ numeral value = c.put_number.ensures
    ∙ ap (λ (s : _). s ++ numeral value) (c.push.ensures.ascii (omega arith))
    ∙ append_assoc c.args.text.now.bytes (space ∷ []) (numeral value)
    in
    record { behind = text; few = omega (arith, ap length text, numeral_most value, length-append {A = ℕ}) }
