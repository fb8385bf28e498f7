-- `survey` meets its contract: the slots of the replayed record hold the list. Assumes nothing.
use Rattle.std.proofs.Common.{◌∙◌}
use Rattle.record.proofs.Replays.{held_accepted}
use Rattle.judge.proofs.Weighed.{weighed_by}
use Rattle.inventory.proofs.Turns.{slots_are}
use Rattle.inventory.proofs.survey.Goals as goal

pub fittings_of-requires : goal.fittings_of-requires
fittings_of-requires c = rw (slots_are _ _ c.replay-now.ensures) (held_accepted _)

pub returns-clause-weighed : goal.returns-clause-weighed
returns-clause-weighed c = c.is_some-weighed.ensures ∙ weighed_by _ c.replay-now.result.standing c.replay-now.ensures.stands

pub returns-clause-fittings : goal.returns-clause-fittings
returns-clause-fittings c = rw (slots_are _ _ c.replay-now.ensures) at c.fittings_of.ensures
