-- `kinds::BytesSource::word` meets its contract: a word has no sign. Assumes nothing.
use Rattle.std.proofs.Common.{pos, ap, ◌∙◌}
use Rattle.paper.specs.File.{word, field_value}
use Rattle.kinds.proofs.Read.{of_bytes}
use Rattle.kinds.proofs.source.BytesSource.word.Goals as goal

pub returns : goal.returns
unfolding field_value
returns c =
    let xs = c.args.self.now.rest.now in
    let n = c.number.ensures in
    record { values = of_bytes word xs _ _ (ap pos (c.from.ensures ∙ n.value)) n.rest; shorter = n.shorter }
