-- The front seat as the code has it, and which numbers of steps in it keep the limits.
use Rattle.std.specs.Prelude.{◌≡◌, Bool, true, ◌&&◌, ℕ, ◌+◌, ◌*◌, ℤ, leb}
use Rattle.laws.specs.declared.Sides.{Sides}
use Rattle.laws.specs.Sides.{difference_of, times_of}
use Rattle.paper.specs.declared.Sheet.{Sheet}
use Rattle.paper.specs.declared.Seat.{Seat}
use Rattle.paper.specs.Record.{Balance}
use Rattle.paper.specs.Rows.{up_to}
use Rattle.planes.specs.Plane.{kept_at}
use Rattle.aboard.specs.declared.Laden.{Laden}
use Rattle.aboard.specs.Aboard.{LoadOf, Share}
use Rattle.solver.specs.declared.Span.{Span}
use Rattle.solver.specs.Span.{within}

-- the margins of the moment: the moment less FWD's; 20 times the safe aft limit's less 20 times the moment
abbrev pub forward_margin : Laden → Sides
forward_margin x = difference_of x.moment x.forward

abbrev pub safe_margin : Laden → Sides
safe_margin x = difference_of x.safe (times_of 20 x.moment)

-- k steps are a load from the least to the greatest
abbrev pub in_seat : Sheet → ℕ → Bool
in_seat s k = leb s.least (k * s.front.step) && leb (k * s.front.step) s.front.most

-- and somebody is in the seat
abbrev pub is_load : Sheet → ℕ → Bool
is_load s k = in_seat s k && leb 1 (k * s.front.step)

-- what a step weighs and turns at an arm
pub record StepAt (s : Sheet) (arm : ℤ) (x : Laden) : Type 0 where
  pub load : LoadOf s s.front.step arm x
  pub share : Share x

-- the order that each line is, of what is aboard and k steps with what a step adds
abbrev pub weight_test : ℕ → Laden → ℕ → ℕ → Bool
weight_test weight y k most = leb (weight + y.weight * k) most

abbrev pub fwd_test : Laden → Laden → ℕ → Bool
fwd_test x y k = leb ((forward_margin x).down + (forward_margin y).down * k) ((forward_margin x).up + (forward_margin y).up * k)

abbrev pub aft_test : Laden → Laden → ℕ → Bool
aft_test x y k = leb ((safe_margin x).down + (safe_margin y).down * k) ((safe_margin x).up + (safe_margin y).up * k)

-- some steps of the seat
abbrev pub Seated : Sheet → Span → Type 0
Seated s x = (k : ℕ) → within x k ≡ true → in_seat s k ≡ true

-- the steps that keep every limit with none of the water aboard, at every arm of the seat
abbrev pub NoneOf : Sheet → Seat → Balance → ℕ → Span → Type 0
NoneOf s f b r x = (k : ℕ) → within x k ≡ (in_seat s k && kept_at s f b r (k * s.front.step) 0)

-- and with every part of water w
abbrev pub AllOf : Sheet → Seat → Balance → ℕ → ℕ → Span → Type 0
AllOf s f b r w x = (k : ℕ) → within x k ≡ (in_seat s k && up_to (kept_at s f b r (k * s.front.step)) w)
