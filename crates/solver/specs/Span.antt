-- Numbers of steps in a span, and the loads that they come to.
use Rattle.std.specs.Prelude.{Bool, ◌&&◌, ℕ, ◌/◌, ◌%◌, leb, eqb}
use Rattle.solver.specs.declared.Span.{Span}

abbrev pub within : Span → ℕ → Bool
within s k = leb s.lo k && leb k s.hi

-- a load that is a multiple of the step, by a number in the span
abbrev pub step_in : ℕ → Span → ℕ → Bool
step_in step s p = eqb (p % step) 0 && within s (p / step)
