-- `row::row` meets its contract: the steps that are left keep every limit, and the solver gives their row. Assumes nothing.
use mathlib.Core.Path.{◌≡◌, ◌∙◌}
use mathlib.Core.Bool.{true}
use Prim.Native.Nat.{ℕ, ◌*◌, ◌≤◌}
use native.Mathlib.Omega.{arith}
use Rattle.laws.specs.Tests.{span_hi}
use Rattle.sheet.proofs.Accepted.{accepted-sheet}
use Rattle.solver.specs.Span.{within, step_in}
use Rattle.row.proofs.Solved.{solved, row_fits}
use Rattle.row.proofs.row.Goals as goal

pub row-requires : goal.row-requires
row-requires c =
    let x = c.args.front.now.arms.force in
    let s = x.sheet in
    let b = accepted-sheet s x.accepted in
    let most : (k : ℕ) → within c.with_all.result k ≡ true → k * s.front.step ≤ s.front.most =
    λ k e. span_hi s.least s.front.most (k * s.front.step) (c.requires.1 k (c.with_all.ensures.0 k e)) in
    (b.steps.front.0, λ k e. omega (arith, most k e, b.ranges.front))

pub returns : goal.returns
returns c =
    let x = c.args.front.now.arms.force in
    let s = x.sheet in
    let most : (k : ℕ) → within c.with_all.result k ≡ true → k * s.front.step ≤ s.front.most =
    λ k e. span_hi s.least s.front.most (k * s.front.step) (c.requires.1 k (c.with_all.ensures.0 k e)) in
    let e = c.row.ensures s.front.most most in (
      row_fits c.row.result (step_in s.front.step c.with_all.result) s.front.most (accepted-sheet s x.accepted).ranges.front e,
      λ g rear v h none. e ∙ solved s x.seat g rear v c.with_all.result (c.with_all.ensures.1 g rear v h none),
    )
