-- `inventory::show` meets its contract: what is written is the schedule of the record's equipment, of which there is little.
-- Assumes nothing.
use Rattle.std.proofs.Common.{◌∙◌}
use Rattle.record.specs.Held.{held_by}
use Rattle.inventory.proofs.Turns.{few_items}
use Rattle.inventory.proofs.show.Goals as goal

pub answer-requires : goal.answer-requires
answer-requires c = rw c.equipment.ensures (few_items c.args.r.now c.survey-weighed.result.1 c.survey-weighed.ensures.fittings)

pub returns : goal.returns
returns c =
    c.answer.ensures (held_by c.args.r.now) c.survey-weighed.ensures.weighed
    (c.equipment.ensures ∙ c.survey-weighed.ensures.fittings)
