-- `line::put_ends` meets its contract: each kind of row has its own words. Assumes nothing.
use Rattle.paper.specs.Placard.{ends}
use Rattle.line.specs.Word.{bytes}
use Rattle.line.proofs.Fields.{pair_written}
use Rattle.line.proofs.put_ends.Goals as goal
use Rattle.line.proofs.put_ends.Goals.{in-Some, in-None}

pub returns : goal.returns
unfolding ends bytes
returns c =
    elim c.match-x.branch [
      | in-Some w ↦ rw w.in-Some.is (pair_written c.args.out.now c.put_pair.new.out w.field.result w.field-in-Some.result w.in-Some.lo w.in-Some.hi w.field.ensures w.field-in-Some.ensures (rw w.lo-is at c.put_pair.ensures))
      | in-None w ↦ rw w.in-None.is (rw w.lo-is at c.put_pair.ensures)
    ]
