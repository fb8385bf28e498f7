-- `Span::narrow` meets its contract: behind each division, in numbers, the span is the part where the order holds.
-- Assumes nothing.
use Prim.Native.Nat.{◌-◌}
use native.Mathlib.Omega.{arith}
use native.Mathlib.Nat.{mul-sub, le-div_iff_mul-le}
use Rattle.laws.specs.Division.{ceil}
use Rattle.solver.proofs.Spans.{part}
use Rattle.solver.proofs.Span.narrow.Goals as goal

pub returns-then-at : goal.returns-then-at
returns-then-at c =
    let a = c.args in
    let d = a.each.down - a.each.up in
    λ k.
    let e = le-div_iff_mul-le {k = d} {x = k} {y = a.at.up - a.at.down} (omega arith) in
    part a.self (record { lo = a.self.lo; hi = c.min.result }) a.at a.each k (λ h l. omega (arith, mul-sub k a.each.down a.each.up, e.0 (omega arith)))
    (λ h l m. omega (arith, e.1 (omega (arith, mul-sub k a.each.down a.each.up))))

pub returns : goal.returns
returns c =
    let a = c.args in
    λ k.
    let e = ceil (a.at.down - a.at.up) (a.each.up - a.each.down) k (omega arith) in
    part a.self (record { lo = c.max.result; hi = a.self.hi }) a.at a.each k (λ h l. omega (arith, mul-sub k a.each.up a.each.down, e.0 (omega arith)))
    (λ h l m. omega (arith, e.1 (omega (arith, mul-sub k a.each.up a.each.down))))
