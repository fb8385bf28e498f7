-- `Span::row` meets its contract: both ends of a span that is not empty are numbers in it. Assumes nothing.
use native.Mathlib.Omega.{arith}
use Rattle.solver.proofs.Spans.{ends, no_ends}
use Rattle.solver.proofs.Span.row.Goals as goal

pub returns-then-self : goal.returns-then-self
returns-then-self c =
    λ n room. ends c.args.step c.args.self n c.requires.0 room c.if-self.true

pub returns-else-self : goal.returns-else-self
returns-else-self c =
    λ n room. no_ends c.args.step c.args.self n c.requires.0 room (omega arith)
