-- What the code carries from row to row, and which weight and moment of the paper's it stands for; and the bounds that keep its
-- sums in their words.
use Rattle.std.specs.Prelude.{◌≡◌, ℕ, ◌+◌, ◌*◌, ◌≤◌, ℤ, pos, ◌*ℤ◌}
use Rattle.laws.specs.declared.Sides.{Sides}
use Rattle.laws.specs.Sides.{Below, value_of, sum_of, times_of}
use Rattle.paper.specs.declared.Sheet.{Sheet}
use Rattle.paper.specs.Units.{half_grams}
use Rattle.paper.specs.Record.{Balance}
use Rattle.paper.specs.Rows.{total_beside, moment_beside}
use Rattle.aboard.specs.Sides.{safe_arm, room}
use Rattle.aboard.specs.declared.Arms.{Arms}
use Rattle.aboard.specs.declared.Laden.{Laden}

-- ---- what is carried

-- a weight with its moment, and the moments of the limits at it
abbrev pub laid_out : ℕ → Sides → Arms → Laden
laid_out weight moment a =
    record { weight = weight; moment = moment; forward = times_of weight a.fwd; safe = times_of weight a.safe }

-- two of them together
abbrev pub plus : Laden → Laden → Laden
plus x y =
    record {
      weight = x.weight + y.weight;
      moment = sum_of x.moment y.moment;
      forward = sum_of x.forward y.forward;
      safe = sum_of x.safe y.safe;
    }

-- and k of them
abbrev pub scaled : ℕ → Laden → Laden
scaled k x =
    record {
      weight = k * x.weight;
      moment = times_of k x.moment;
      forward = times_of k x.forward;
      safe = times_of k x.safe;
    }

-- it stands for weight t and moment m, in half grams
pub record Stands (s : Sheet) (t m : ℤ) (x : Laden) : Type 0 where
  pub weight : pos x.weight ≡ t
  pub moment : value_of x.moment ≡ m
  pub forward : value_of x.forward ≡ s.fwd *ℤ t
  pub safe : value_of x.safe ≡ safe_arm s *ℤ t

-- for the glider with rear load r and all of water w aboard: its moment is M with both at their arms
abbrev pub Beside : Sheet → Balance → ℕ → ℕ → Laden → Type 0
Beside s b r w x = Stands s (total_beside b r w) (moment_beside s b r w) x

-- for so many grams at an arm
abbrev pub LoadOf : Sheet → ℕ → ℤ → Laden → Type 0
LoadOf s grams arm x = Stands s (half_grams (pos grams)) (half_grams (pos grams) *ℤ arm) x

-- ---- bounds

-- with k steps of water aboard
pub record Room (k : ℕ) (x : Laden) : Type 0 where
  pub weight : x.weight ≤ 8000000 + k * 4000000
  pub moment : Below (room k) x.moment
  pub forward : Below (room k) x.forward
  pub safe : Below (room k) x.safe

-- what a load adds
pub record Share (x : Laden) : Type 0 where
  pub weight : x.weight ≤ 4000000
  pub moment : Below 160000000000000 x.moment
  pub forward : Below 160000000000000 x.forward
  pub safe : Below 160000000000000 x.safe
