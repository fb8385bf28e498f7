-- Two readings: the distances of a pair's are the same, so that the first decides. Assumes nothing.
use mathlib.Core.Path.{◌≡◌}
use Rattle.laws.specs.Tests.{or_self}
use Rattle.paper.specs.declared.Weighing.{Weighing}
use Rattle.paper.specs.Refusals.{bad_distance, either}
use Rattle.weighing.specs.Readings.{both}

-- of two readings with the same distances the first decides
pub first_decides : (v w : Weighing) → bad_distance w ≡ bad_distance v → either bad_distance (both v w) ≡ bad_distance v
first_decides v w e = rw e (or_self _)
