-- `inventory::equipment` meets its contract: the columns are those of the record's equipment. Assumes nothing.
use Rattle.std.proofs.Common.{◌∙◌}
use Rattle.record.specs.Held.{held_by}
use Rattle.inventory.proofs.equipment.Goals as goal

pub returns : goal.returns
returns c =
    c.answer.ensures (held_by c.args.r.now) c.survey-weighed.ensures.weighed
    (c.equipment.ensures ∙ c.survey-weighed.ensures.fittings)
