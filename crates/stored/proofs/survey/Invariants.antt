-- `stored::survey` meets its contract. The loop's invariant: as many entries are passed as it went round, and where the last of
-- them begins is at hand. Assumes nothing.
use Rattle.std.proofs.Common.{◌-◌, List}
use Rattle.paper.specs.declared.Entry.{Entry}
use Rattle.stored.specs.Found.{LastAt}
use Rattle.stored.specs.Walks.{Walked}
use Rattle.stored.proofs.survey.Given as goal

abbrev pub invariant-loop : goal.invariant-loop
invariant-loop l = (es : List Entry) × Walked l.s es (l.end - l.counter) l.entries l.standing × LastAt es l.last
