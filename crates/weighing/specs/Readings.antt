-- Two readings that count together.
use Rattle.std.specs.Prelude.{◌≡◌, refl, ℕ}
use Rattle.paper.specs.declared.Weighing.{Weighing}
use Rattle.paper.specs.declared.Paired.{Paired}
use Rattle.paper.specs.Record.{Readings, paired}
use Rattle.paper.specs.Refusals.{bad_distance}

abbrev pub both : Weighing → Weighing → Readings
both v w = record { first = v; second = w }

-- a reading of a paired weighing
abbrev pub reading_of : Paired → ℕ → ℕ → Weighing
reading_of x p q = record { m = x.m; p = p; q = q; a = x.a; b = x.b; n = x.n }

-- the readings of a paired weighing have their distances in common
pub paired_distances : (x : Paired) → bad_distance (paired x).second ≡ bad_distance (paired x).first
unfolding bad_distance
paired_distances x = refl
