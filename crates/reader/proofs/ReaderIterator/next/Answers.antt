-- `reader::ReaderIterator::next` meets its contract, by the first byte and what is taken. Assumes nothing.
use Rattle.std.proofs.Common.{refl, arith}
use Rattle.paper.specs.Numbers.{code_of}
use Rattle.entries.proofs.Rows.{code}
use Rattle.reader.specs.Reading.{unread, last_of}
use Rattle.reader.proofs.Kept.{no_byte_to, later_to, taken_to}
use Rattle.reader.proofs.ReaderIterator.next.Goals as goal

pub returns-in_default-clause-steps : goal.returns-in_default-clause-steps
returns-in_default-clause-steps c =
    let r = c.args.self.now in
    ((no_byte_to (code_of (last_of r)) (unread r).now c.in_default.len_below, refl), refl)

pub returns-then-code-self-clause-steps : goal.returns-then-code-self-clause-steps
returns-then-code-self-clause-steps c =
    let r = c.args.self.now in
    ((later_to (code_of (last_of r)) (unread r).now c.in-len1-up.len_at_least (omega (arith, code (last_of r), c.if-code-self.true)), refl), refl)

pub returns-clause-steps : goal.returns-clause-steps
returns-clause-steps c =
    let r = c.args.self.now in
    (taken_to (code_of (last_of r)) (unread r).now _ _ _ c.in-len1-up.len_at_least (omega (arith, code (last_of r), c.if-code-self.false)) c.take_entry.ensures, refl)
