-- `kinds::ValuesSource::byte` meets its contract: the next value, without its sign. Assumes nothing.
use Rattle.std.proofs.Common.{pos, nat_abs, ap, ◌∙◌, to_z-of_z, w64}
use Rattle.paper.specs.File.{byte}
use Rattle.kinds.proofs.Read.{of_values}
use Rattle.kinds.proofs.source.ValuesSource.byte.Goals as goal

pub returns : goal.returns
returns c =
    let n = c.next.ensures in
    let back = to_z-of_z {w = w64} (record { sfits = c.next.type_inv }) in
    let size = c.unsigned_abs.ensures.value ∙ ap nat_abs (back ∙ n.0) in
    record { values = of_values byte c.args.self.now.rest.now _ _ (ap pos size) n.1; shorter = n.2 }
