-- `columns::put` meets its contract: each turn fills one element more of each column. Assumes nothing.
use Rattle.std.proofs.Common.{rules, refl, pos}
use Rattle.paper.specs.declared.Equipment.{Equipment}
use Rattle.paper.specs.Equipment.{arm_column, weight_column, nonlifting_column}
use Rattle.paper.specs.Answers.{over}
use Rattle.columns.proofs.Columns.{put_more}
use Rattle.columns.proofs.put.Goals as goal

abbrev nothing : Equipment
nothing = record { arm = pos 0; weight = pos 0; nonlifting = pos 0 }

pub loop-i-init : goal.loop-i-init
unfolding over arm_column weight_column nonlifting_column
loop-i-init c = (refl, refl, refl)

pub loop-i-preserved : goal.loop-i-preserved
unfolding arm_column weight_column nonlifting_column
loop-i-preserved c =
    let xs = c.args.items.now in
    let s = c.loop-i in
    let known = s.invariant in (
      put_more (λ (x : Equipment). x.arm) xs c.args.arms.now s.arms s.i nothing known.0 (search rules) c.requires.arms (search rules),
      put_more (λ (x : Equipment). x.weight) xs c.args.weights.now s.weights s.i nothing known.1 (search rules) c.requires.weights (search rules),
      put_more (λ (x : Equipment). x.nonlifting) xs c.args.nonlifting.now s.nonlifting s.i nothing known.2 (search rules) c.requires.nonlifting (search rules),
    )
