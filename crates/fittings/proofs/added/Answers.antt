-- `added` meets its contract: both sums fit, as the nets and the change are bounded. Assumes nothing.
use Rattle.std.proofs.Common.{rules, SFits}
use Rattle.std.specs.Int.{w64}
use Rattle.std.proofs.lemmas.Int.{to_z-of_z}
use Rattle.fittings.proofs.Nets.{weight_most, part_most, sum_fits, sum_is}
use Rattle.fittings.proofs.added.Goals as goal

pub overflow_add-result : goal.overflow_add-result
overflow_add-result c =
    sum_fits c.args.e.weight c.args.x.c (search rules) (search rules) c.requires.weight (weight_most c.args.x c.requires.fine)

pub overflow_add-result-2 : goal.overflow_add-result-2
overflow_add-result-2 c =
    sum_fits c.args.e.nonlifting c.nonlifting_part.result (search rules) (search rules) c.requires.nonlifting (rw c.nonlifting_part.ensures (part_most c.args.x c.requires.fine))

pub returns : goal.returns
returns c =
    let a : SFits w64 c.args.e.arm = search rules in
    let weight = sum_is c.args.e.weight c.args.x.c (search rules) (search rules) c.requires.weight (weight_most c.args.x c.requires.fine) in
    let part = sum_is c.args.e.nonlifting c.nonlifting_part.result (search rules) (search rules) c.requires.nonlifting (rw c.nonlifting_part.ensures (part_most c.args.x c.requires.fine)) in
    rw (to_z-of_z w64 c.args.e.arm a, weight, part, c.nonlifting_part.ensures)
