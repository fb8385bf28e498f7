-- `Terms::new` meets its contract: what the calls say, put together. Assumes nothing.
use native.Mathlib.Omega.{arith}
use Rattle.sheet.proofs.Accepted.{accepted-sheet}
use Rattle.group.proofs.Terms.new.Goals as goal

pub grams_at-share-requires : goal.grams_at-share-requires
grams_at-share-requires c =
    let x = c.new-arms.result.force in
    let steps = (accepted-sheet x.sheet x.accepted).steps in
    (omega (arith, steps.water.1), c.new-arms.result.water_is.range)

pub invariant_of-result : goal.invariant_of-result
invariant_of-result c =
    let load = c.grams_at-share.ensures in
    record { share_is = rw (c.new.ensures) (rw c.new-arms.result.water_is.value at load.1); share_in = load.0 }
