-- A span narrowed by an order, and the row of the steps in it. Assumes nothing.
use Prim.Native.Nat.{ℕ, ◌+◌, ◌*◌, ◌/◌, ◌%◌, ◌≤◌, ◌<◌}
use mathlib.Core.Path.{◌≡◌, sym}
use mathlib.Core.Bool.{true, ◌&&◌}
use native.Mathlib.Nat.{mul-mod_left, mul-div_cancel, div-add-mod', mul-le-mul_right, le_refl}
use native.Mathlib.Omega.{arith}
use lib.Dec.{leb, eqb}
use borrow.Author.Tests.{leb-true, le-leb, eq-eqb, eqb-true}
use Rattle.laws.specs.Tests.{same, isnt, both, left, right, in_span, span_lo, span_hi}
use Rattle.laws.specs.declared.Sides.{Sides}
use Rattle.std.specs.Prelude.{Some, None}
use Rattle.paper.specs.Rows.{row_of}
use Rattle.planes.proofs.Searches.{row_of-ends, row_of_none}
use Rattle.solver.specs.declared.Span.{Span}
use Rattle.solver.specs.Span.{within, step_in}

-- ---- narrowed by an order

-- r is the part of s where one side is at least the other, if it is so in numbers
pub part : (s r : Span) (at each : Sides) (k : ℕ) → (r.lo ≤ k → k ≤ r.hi → ((s.lo ≤ k) × (k ≤ s.hi) × (at.down + each.down * k ≤ at.up + each.up * k))) → (s.lo ≤ k → k ≤ s.hi → at.down + each.down * k ≤ at.up + each.up * k → ((r.lo ≤ k) × (k ≤ r.hi))) → within r k ≡ (within s k && leb (at.down + each.down * k) (at.up + each.up * k))
part s r at each k f b =
    let m = at.down + each.down * k in
    let n = at.up + each.up * k in
    same (within r k) (within s k && leb m n)
    (λ e.
    let h = f (span_lo r.lo r.hi k e) (span_hi r.lo r.hi k e) in
    both (within s k) (leb m n) (in_span s.lo s.hi k h.0 h.1) (le-leb m n h.2))
    (λ e.
    let w = left (within s k) (leb m n) e in
    let h = b (span_lo s.lo s.hi k w) (span_hi s.lo s.hi k w) (leb-true m n (right (within s k) (leb m n) e)) in
    in_span r.lo r.hi k h.0 h.1)

-- ---- the row of the steps in a span

module _ (f : ℕ) (s : Span) (n : ℕ) (pos : 0 < f) (room : (k : ℕ) → within s k ≡ true → k * f ≤ n) where
  -- a load whose number of steps is in the span lies between the two ends
  in-numbers : (j : ℕ) → step_in f s j ≡ true → (s.lo ≤ s.hi) × (s.lo * f ≤ j) × (j ≤ s.hi * f)
  in-numbers j e =
      let d : j / f * f ≡ j = omega (arith, div-add-mod' j f, eqb-true (j % f) 0 (left (eqb (j % f) 0) (within s (j / f)) e)) in
      let w = right (eqb (j % f) 0) (within s (j / f)) e in
      let a = span_lo s.lo s.hi (j / f) w in
      let b = span_hi s.lo s.hi (j / f) w in
      (omega arith, omega (arith, mul-le-mul_right f a), omega (arith, mul-le-mul_right f b))

  a_step : (k : ℕ) → within s k ≡ true → step_in f s (k * f) ≡ true
  a_step k w =
      let e : k * f / f ≡ k = mul-div_cancel k pos in
      both (eqb (k * f % f) 0) (within s (k * f / f)) (eq-eqb (k * f % f) 0 (mul-mod_left k f)) (rw e w)

  pub ends : s.lo ≤ s.hi → Some (s.lo * f, s.hi * f) ≡ row_of (step_in f s) n
  ends h =
      let first = in_span s.lo s.hi s.lo (le_refl s.lo) h in
      let last = in_span s.lo s.hi s.hi h (le_refl s.hi) in
      sym
      (row_of-ends (step_in f s) n (s.lo * f) (s.hi * f) (
        a_step s.lo first,
        a_step s.hi last,
        room s.lo first,
        room s.hi last,
        λ j b e. let i = in-numbers j e in (i.1, i.2),
      ))

  pub no_ends : s.hi < s.lo → None ≡ row_of (step_in f s) n
  no_ends h = sym (row_of_none (step_in f s) n (λ j b. isnt (step_in f s j) (λ e. let i = in-numbers j e in omega arith)))
