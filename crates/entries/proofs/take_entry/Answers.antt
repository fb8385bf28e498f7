-- `entries::take_entry` meets its contract: by the kind that the bytes begin with, and each kind by its own function.
-- Assumes nothing.
use Rattle.std.proofs.Common.{refl}
use Rattle.paper.specs.declared.Kind.TheVariants as kind
use Rattle.entries.proofs.Taking.{no_byte, no_kind_got, kind_got}
use Rattle.entries.proofs.take_entry.Goals as goal

pub returns-in_default : goal.returns-in_default
returns-in_default c = (no_byte c.args.s.now.now c.in_default.len_below, refl)

pub returns-in_err-ok : goal.returns-in_err-ok
returns-in_err-ok c =
    rw c.from_residual.ensures (no_kind_got c.args.s.now.now c.in-len1-up.len_at_least _ c.try_from.ensures c.in_err-ok.ensures.value, refl)

pub returns-in-Weighing : goal.returns-in-Weighing
returns-in-Weighing c =
    kind_got c.args.s.now.now c.in-len1-up.len_at_least _ c.try_from.ensures kind.Weighing (rw c.in-Weighing.is at c.in_ok-ok.ensures.value) _ _ _ c.take_stored.ensures

pub returns-in-Sheet : goal.returns-in-Sheet
returns-in-Sheet c =
    kind_got c.args.s.now.now c.in-len1-up.len_at_least _ c.try_from.ensures kind.Sheet (rw c.in-Sheet.is at c.in_ok-ok.ensures.value) _ _ _ c.take_stored-in-Sheet.ensures

pub returns-in-Change : goal.returns-in-Change
returns-in-Change c =
    kind_got c.args.s.now.now c.in-len1-up.len_at_least _ c.try_from.ensures kind.Change (rw c.in-Change.is at c.in_ok-ok.ensures.value) _ _ _ c.take_stored-in-Change.ensures

pub returns-in-Paired : goal.returns-in-Paired
returns-in-Paired c =
    kind_got c.args.s.now.now c.in-len1-up.len_at_least _ c.try_from.ensures kind.Paired (rw c.in-Paired.is at c.in_ok-ok.ensures.value) _ _ _ c.take_stored-in-Paired.ensures

pub returns-in-Seat : goal.returns-in-Seat
returns-in-Seat c =
    kind_got c.args.s.now.now c.in-len1-up.len_at_least _ c.try_from.ensures kind.Seat (rw c.in-Seat.is at c.in_ok-ok.ensures.value) _ _ _ c.take_stored-in-Seat.ensures
