-- The entries of a replayed record in turn: each is accepted behind those before it, and behind the last it is the list that is
-- known of; of its equipment there is little. Assumes nothing.
use Rattle.std.specs.Prelude.{◌≡◌, true, List, [], ◌∷◌, ◌++◌, ℕ, ◌+◌, ◌<◌, ◌≤◌, length, take, drop, get_or}
use Rattle.std.proofs.Common.{sym, ap, ◌∙◌, arith, take_all}
use Rattle.std.proofs.lemmas.List.{take_more, take-append-drop}
use Rattle.paper.specs.declared.Entry.{Entry}
use Rattle.paper.specs.Equipment.{fitted}
use Rattle.paper.specs.Refusals.{accepted}
use Rattle.judge.proofs.Accepted.{accepted_before}
use Rattle.record.specs.declared.Record.{Record}
use Rattle.record.specs.declared.Replayed.{Replayed}
use Rattle.record.specs.Held.{slotted, held_by, ReplayedAs}
use Rattle.record.proofs.Lists.{slotted_record}
use Rattle.record.proofs.Replays.{held_accepted, held_most}
use Rattle.stations.proofs.Fitted.{fewer_fitted, fitted_in_range}
use Rattle.fittings.specs.declared.Fittings.{Fittings}
use Rattle.fittings.specs.Fittings.{fitted_in, Tells}
use Rattle.fittings.proofs.Nets.{weights_within, parts_within}
use Rattle.schedule.specs.Schedules.{Few}
use Rattle.inventory.proofs.Few.{few_arms}

-- the next entry is accepted behind those before it
pub next_accepted : (es : List Entry) (i : ℕ) (d : Entry) → i < length es → accepted es ≡ true → accepted (take i es ++ get_or es i d ∷ []) ≡ true
next_accepted es i d h a =
    rw (sym (take_more es i d h))
    (accepted_before (take (i + 1) es) (drop (i + 1) es) (ap accepted (take-append-drop (i + 1) es) ∙ a))

-- what is known behind the first entries, and behind all
pub tells_next : (es : List Entry) (i : ℕ) (d : Entry) (t : Fittings) → i < length es → Tells (take i es ++ get_or es i d ∷ []) t → Tells (take (i + 1) es) t
tells_next es i d t h s = rw (take_more es i d h) s

pub tells_last : (es : List Entry) (i : ℕ) (t : Fittings) → length es ≤ i → Tells (take i es) t → Tells es t
tells_last es i t h s = rw (take_all i es h) at s

-- what is known of a replay
module _ (es : List Entry) (now : Replayed) (at : ReplayedAs es now) where
  -- its slots hold the list
  pub slots_are : slotted now.log ≡ es
  slots_are = ap slotted at.log ∙ slotted_record es

-- what is known of the equipment of a record
pub few_items : (r : Record) (t : Fittings) → Tells (held_by r) t → Few (fitted_in t)
few_items r t s =
    let es = held_by r in
    let a = held_accepted r in
    let l : length (fitted es) ≤ 64 = omega (arith, fewer_fitted es, held_most r) in
    let f = fitted_in_range es a in
    rw s
    (record { count = omega (arith, few_arms es a); weight = weights_within (fitted es) l f; nonlifting = parts_within (fitted es) l f })
