-- `equipped::found` meets its contract. The loop's invariant: as many entries are passed as it went round, and their equipment is
-- at hand. Assumes nothing.
use Rattle.std.proofs.Common.{◌-◌, List}
use Rattle.paper.specs.declared.Entry.{Entry}
use Rattle.stored.specs.Walks.{Walked}
use Rattle.fittings.specs.Fittings.{Tells}
use Rattle.equipped.proofs.found.Given as goal

abbrev pub invariant-loop : goal.invariant-loop
invariant-loop l = (es : List Entry) × Walked l.s es (l.end - l.counter) l.entries l.standing × Tells es l.fittings
