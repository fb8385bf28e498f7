-- `file::found` meets its contract. The loop's invariant: the first i entries are in the record, and the reader stands
-- behind them (`ReadTo`). Assumes nothing.
use Rattle.std.proofs.Common.{◌-◌}
use Rattle.file.proofs.Reading.{ReadTo}
use Rattle.file.proofs.found.Given as goal

abbrev pub invariant-loop : goal.invariant-loop
invariant-loop l = ReadTo l.s l.counter (l.end - l.counter) l.entries l.standing l.log
