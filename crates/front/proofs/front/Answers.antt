-- `front::front` meets its contract: the bytes that the length speaks of, or none where there are fewer. Assumes nothing.
use Rattle.std.proofs.Common.{ap, ◌∙◌, arith}
use Rattle.paper.specs.File.{number_of}
use Rattle.format.specs.Numbers.{bytes_at}
use Rattle.front.proofs.Fronts.{no_front, front_got}
use Rattle.front.proofs.front.Goals as goal

pub returns-in_err-length : goal.returns-in_err-length
returns-in_err-length c =
    let bytes = bytes_at c.args.buffer.now (λ i h. (c.type_inv.buffer i).fits) in
    rw c.from_residual.ensures (no_front c.args.buffer.now bytes (omega (arith, c.in_err-length.ensures.cases)))

pub returns : goal.returns
returns c =
    let bytes = bytes_at c.args.buffer.now (λ i h. (c.type_inv.buffer i).fits) in
    let behind = c.number_of-behind.ensures ∙ ap number_of c.in_ok-length.ensures.cases.same in
    front_got c.args.buffer.now _ _ bytes behind c.get.ensures.lookup
