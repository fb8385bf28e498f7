-- `line::put_pair` meets its contract: a word, a space and a word. Assumes nothing.
use mathlib.Core.Path.{refl}
use native.Mathlib.Omega.{arith}
use lib.ListN.{set}
use Rattle.paper.specs.Placard.{space}
use Rattle.laws.specs.Written.{written_three, written-part}
use Rattle.line.specs.Word.{bytes}
use Rattle.line.proofs.put_pair.Goals as goal

pub returns : goal.returns
unfolding bytes
returns c =
    let a = c.args in
    let last = written-part (set c.put_word.new.out 8 space) c.put_word-2.new.out (bytes a.b) 9 c.put_word-2.ensures in
    written_three a.out.now c.put_word.new.out _ (bytes a.a) (bytes a.b) space 0 8 refl (omega arith) c.put_word.ensures last
