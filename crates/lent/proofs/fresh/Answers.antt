-- `lent::fresh` meets its contract: the header is all of the file. Assumes nothing.
use Rattle.lent.proofs.Answers.{fresh_short, fresh_put}
use Rattle.lent.proofs.fresh.Goals as goal

pub returns-then-buffer-lt-LENGTH : goal.returns-then-buffer-lt-LENGTH
returns-then-buffer-lt-LENGTH c = fresh_short c.args.buffer.now c.if-buffer-lt-LENGTH.true

pub returns : goal.returns
returns c =
    fresh_put c.args.buffer.now _ c.if-buffer-lt-LENGTH.false c.put_header.ensures
