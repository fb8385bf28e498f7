-- The row of the steps that keep every limit with every part of the water is the paper's row: the two tests of a front load are
-- the same. Assumes nothing.
use mathlib.Core.Path.{◌≡◌, refl, sym, ◌∙◌}
use mathlib.Core.Bool.{Bool, true, false, ◌&&◌}
use Prim.Native.Nat.{ℕ, ◌*◌, ◌/◌, ◌%◌, ◌≤◌}
use native.Mathlib.Nat.{div-add-mod'}
use native.Mathlib.Omega.{arith}
use lib.Dec.{leb, eqb}
use borrow.Author.Tests.{eqb-true}
use Rattle.std.specs.Prelude.{Some, None}
use Rattle.paper.specs.declared.Sheet.{Sheet}
use Rattle.paper.specs.declared.Seat.{Seat}
use Rattle.paper.specs.Record.{Balance}
use Rattle.paper.specs.Rows.{Row, up_to, is_step, good, row_of, row}
use Rattle.paper.specs.Placard.{RowFits}
use Rattle.planes.specs.Plane.{kept_at}
use Rattle.planes.proofs.Searches.{found, row_of_same}
use Rattle.planes.proofs.Rows.{good_is}
use Rattle.solver.specs.declared.Span.{Span}
use Rattle.solver.specs.Span.{within, step_in}
use Rattle.limits.specs.Seats.{AllOf}

module _ (s : Sheet) (f : Seat) (b : Balance) (r w : ℕ) (x : Span) (all : AllOf s f b r w x) where
  abbrev step : ℕ
  step = s.front.step

  by_step : (p : ℕ) (t : Bool) → eqb (p % step) 0 ≡ t → step_in step x p ≡ (is_step s p && up_to (kept_at s f b r p) w)
  unfolding is_step
  by_step p true e =
      let d : p / step * step ≡ p = omega (arith, div-add-mod' p step, eqb-true (p % step) 0 e) in
      let m : within x (p / step) ≡ ((leb s.least p && leb p s.front.most) && up_to (kept_at s f b r p) w) = rw d at (all (p / step)) in
      rw (e, m)
  by_step p false e = rw e

  pub solved : row_of (step_in step x) s.front.most ≡ row s f b r w
  unfolding row
  solved =
      row_of_same (step_in step x) (good s f b r w) s.front.most
      (λ p h. by_step p (eqb (p % step) 0) refl ∙ sym (good_is s f b r w p))

-- both ends of a row fit their fields
pub row_fits : (y : Row) (q : ℕ → Bool) (n : ℕ) → n ≤ 500000 → y ≡ row_of q n → RowFits y
row_fits (Some (lo, hi)) q n h e = let f = found q n lo hi (sym e) in (omega (arith, f.2), omega (arith, f.3))
row_fits None q n h e = tt
