-- `line::put_line` meets its contract: the two loads, a space, the ends and a line feed, one behind the other. Assumes nothing.
use mathlib.Core.Path.{ap, ◌∙◌}
use mathlib.Core.List.{List, ◌∷◌, ◌++◌}
use Prim.Native.Nat.{ℕ}
use native.Mathlib.Omega.{arith}
use lib.ListN.{set}
use Rattle.paper.specs.Placard.{space, feed, kilograms, ends, line}
use Rattle.laws.specs.Written.{written_then, written_three, written-part}
use Rattle.line.proofs.Length.{length_pair, length_fields}
use Rattle.line.proofs.Fields.{pair_written}
use Rattle.line.proofs.put_line.Goals as goal

pub returns : goal.returns
unfolding line
returns c r w e f =
    let a = c.args in
    let loads = kilograms r ++ space ∷ kilograms w in
    let last = written-part (set c.put_pair.new.out 17 space) c.put_ends.new.out (ends a.x) 18 c.put_ends.ensures in
    let fields = written_three a.out.now c.put_pair.new.out _ loads (ends a.x) space 0 17 (length_pair r w) (omega arith) (pair_written a.out.now c.put_pair.new.out a.rear a.water r w e f c.put_pair.ensures) last in
    ap (λ (t : List ℕ). set t 35 feed) fields
    ∙ written_then a.out.now (loads ++ space ∷ ends a.x) feed 0 35 (length_fields r w a.x) (omega arith)
