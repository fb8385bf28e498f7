-- `kinds::ValuesSource::signed` meets its contract: the next value. Assumes nothing.
use Rattle.std.proofs.Common.{◌∙◌, to_z-of_z, w64}
use Rattle.paper.specs.File.{signed_word}
use Rattle.kinds.proofs.Read.{of_values}
use Rattle.kinds.proofs.source.ValuesSource.signed.Goals as goal

pub returns : goal.returns
returns c =
    let n = c.next.ensures in
    let back = to_z-of_z {w = w64} (record { sfits = c.next.type_inv }) in
    record { values = of_values signed_word c.args.self.now.rest.now _ _ (back ∙ n.0) n.1; shorter = n.2 }
