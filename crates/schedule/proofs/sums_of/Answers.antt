-- `schedule::sums_of` meets its contract. The loop's invariant: both are the sums so far. Assumes nothing.
use Rattle.std.proofs.Common.{◌<◌, length, arith}
use Rattle.paper.specs.declared.Equipment.{Equipment}
use Rattle.schedule.proofs.Totals.{summed_none, summed_next}
use Rattle.schedule.proofs.sums_of.Goals as goal

pub loop-e-init : goal.loop-e-init
loop-e-init c = (
  summed_none (λ (x : Equipment). x.weight) c.args.items.now,
  summed_none (λ (x : Equipment). x.nonlifting) c.args.items.now,
)

pub loop-e-preserved : goal.loop-e-preserved
loop-e-preserved c =
    let l = c.loop-e in
    let es = c.args.items.now in
    let few = c.requires in
    let here : l.e-index < length es = omega arith in (
      summed_next (λ (x : Equipment). x.weight) es l.e-index _ _ here few.count l.invariant.0 (few.weight l.e-index _ here),
      summed_next (λ (x : Equipment). x.nonlifting) es l.e-index _ _ here few.count l.invariant.1 (few.nonlifting l.e-index _ here),
    )
