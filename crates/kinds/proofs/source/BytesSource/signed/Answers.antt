-- `kinds::BytesSource::signed` meets its contract: the signed number that a word stands for. Assumes nothing.
use Rattle.std.proofs.Common.{ap, ◌∙◌, to_z-of_z, w64}
use Rattle.paper.specs.File.{signed_word, field_value}
use Rattle.kinds.proofs.Read.{of_bytes}
use Rattle.kinds.proofs.source.BytesSource.signed.Goals as goal

pub returns : goal.returns
returns c =
    let xs = c.args.self.now.rest.now in
    let n = c.number.ensures in
    let back = to_z-of_z {w = w64} (record { sfits = c.signed.type_inv }) in
    record { values = of_bytes signed_word xs _ _ (back ∙ c.signed.ensures ∙ ap (field_value signed_word) n.value) n.rest; shorter = n.shorter }
