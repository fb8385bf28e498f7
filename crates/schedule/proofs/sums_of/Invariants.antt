-- `schedule::sums_of` meets its contract. The loop's invariant: both are the sums so far. Assumes nothing.
use Rattle.paper.specs.declared.Equipment.{Equipment}
use Rattle.schedule.proofs.Totals.{Summed}
use Rattle.schedule.proofs.sums_of.Given as goal

abbrev pub invariant-loop-e : goal.invariant-loop-e
invariant-loop-e l =
    Summed (λ (x : Equipment). x.weight) l.items l.e-index l.weight × Summed (λ (x : Equipment). x.nonlifting) l.items l.e-index l.nonlifting
