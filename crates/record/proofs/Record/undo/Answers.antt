-- `Record::undo` meets its contract: the list that the record holds is bare, or loses its last. Assumes nothing.
use Rattle.std.proofs.Common.{◌≡◌, sym, ap, ◌∙◌, arith, rules, Result, Err}
use Rattle.paper.specs.declared.Refusal.{Refusal}
use Rattle.paper.specs.Numbers.{number_of}
use Rattle.paper.specs.Journal.{call_number, accepted_call, without_last}
use Rattle.judge.proofs.Judging.{missing}
use Rattle.record.specs.Held.{held_by, answered}
use Rattle.record.proofs.Lists.{cleared, cleared_is}
use Rattle.record.proofs.Replays.{count_is, held_most}
use Rattle.record.proofs.Calls.{refused_is, accepted_is, undo_bare, undo_some}
use Rattle.record.proofs.Record.undo.Goals as goal

pub returns-in_err-last : goal.returns-in_err-last
unfolding answered call_number
returns-in_err-last c =
    let r = c.args.self.now in
    let m = missing c.checked_sub.result _ _ c.in_err-last.ensures.value in
    let none = rw m.0 at c.checked_sub.ensures in
    let told : ◌≡◌ {A = Result (Unit {0}) Refusal} c.from_residual.result (Err c.in_err-last.field-0.0) = search rules in
    let bare = undo_bare (held_by r) (omega (arith, none, count_is _ _ c.replay.ensures)) in
    rw told (refused_is c.in_err-last.field-0.0 _ r _ (ap number_of m.1 ∙ sym bare))

pub bounds-log-last : goal.bounds-log-last
bounds-log-last c =
    let some = rw c.in_ok-last.ensures.ok_part at c.checked_sub.ensures in
    omega (arith, some.1, held_most c.args.self.now, count_is _ _ c.replay.ensures)

pub offset_bounds-log-last : goal.offset_bounds-log-last
offset_bounds-log-last c =
    let some = rw c.in_ok-last.ensures.ok_part at c.checked_sub.ensures in
    omega (arith, some.1, held_most c.args.self.now, count_is _ _ c.replay.ensures)

pub returns : goal.returns
unfolding answered call_number accepted_call
returns c =
    let r = c.args.self.now in
    let es = held_by r in
    let at = c.replay.ensures in
    let some = rw c.in_ok-last.ensures.ok_part at c.checked_sub.ensures in
    let count = count_is _ _ at in
    let log = ap cleared at.log ∙ cleared_is es (omega (arith, some.0, count)) (held_most r) in
    accepted_is _ r _ (without_last es) (undo_some es (λ e. omega (arith, some.0, count, e))) (rw some.1 log)
