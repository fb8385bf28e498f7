-- `weighing::added` meets its contract: each sum is the paper's. Assumes nothing.
use Rattle.std.proofs.Common.{◌∙◌, ap, ◌+◌, pos, ◌+ℤ◌, arith}
use mathlib.Core.Path.{ap₂}
use Rattle.laws.specs.Sides.{value_of, below_sum, value_sum}
use Rattle.paper.specs.Record as paper
use Rattle.weighing.proofs.added.Goals as goal

pub returns : goal.returns
unfolding paper.weighed
returns c =
    let f = c.args.first in
    let g = c.args.second in (
      (λ v w says tells i. record {
        total = ap₂ ◌+ℤ◌ says.total tells.total i;
        moment = (ap value_of c.add.ensures ∙ value_sum f.moment g.moment says.moment tells.moment) i;
        non_lifting = pos (says.nonlifting i + tells.nonlifting i);
      }),
      record {
        ranged = record { least = omega (arith, c.requires); most = omega (arith, c.requires); part = omega (arith, c.requires) };
        moment = rw c.add.ensures (below_sum f.moment g.moment c.requires.0.moment c.requires.1.moment);
      },
    )
