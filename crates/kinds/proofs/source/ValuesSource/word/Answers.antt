-- `kinds::ValuesSource::word` meets its contract: of values a word is what a byte is. Assumes nothing.
use Rattle.kinds.proofs.source.ValuesSource.word.Goals as goal

pub returns : goal.returns
returns c = record { values = c.byte.ensures.values; shorter = c.byte.ensures.shorter }
