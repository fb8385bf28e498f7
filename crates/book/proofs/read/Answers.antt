-- `book::read` meets its contract. The loop's invariant: the lines that came are read (`ReadTo`), and the iterator that the
-- loop began with gives the lines of the text, numbered from 0. A line's turn goes by what it says (`Places`). Assumes nothing.
use Rattle.std.proofs.Common.{rules, tests, ◌≡◌, refl, sym, ap, ◌∙◌, eqb, Result, Err}
use Prim.Native.Nat.{ℕ, ◌+◌}
use Rattle.std.proofs.lemmas.Iterator.Consumers.{YieldsList-at, YieldsList-from_enumerate, YieldsList-turn, YieldsList-end}
use Rattle.std.proofs.lemmas.Iterator.Splits.{YieldsList-from_slice_split}
use Rattle.std.proofs.lemmas.List.{length_push}
use Rattle.paper.specs.Placard.{feed}
use Rattle.paper.specs.Numbers.{number_in}
use Rattle.record.specs.declared.Record.{Record}
use Rattle.record.proofs.Calls.{ok_number}
use Rattle.book.specs.declared.Failure.{Failure}
use Rattle.book.specs.declared.Failure.TheVariants as failure
use Rattle.book.proofs.Turns.{line_here, no_more, mapped}
use Rattle.book.proofs.Places.{none_read, passed, not_understood_lem, refused_entry, entry_room, added_entry, refused_undo, undone, all_read}
use Rattle.book.proofs.read.Goals as goal

pub loop-i-init : goal.loop-i-init
loop-i-init c = (
  none_read c.args.s.now c.fresh-log.result c.new-standing.result c.fresh-log.ensures c.new-standing.ensures,
  YieldsList-at c.into_iter-i-iterator.ensures.into_iter_gives
      (YieldsList-from_enumerate
      (YieldsList-at c.enumerate-i-items.ensures.source
      (YieldsList-from_slice_split _ (λ (x : ℕ). eqb x feed) c.args.s.now c.split.ensures.rest c.split.ensures.done c.split.ensures.closure (λ x r q k. search (rules, tests))))
      c.enumerate-i-items.ensures.count),
)

pub loop-i-preserved-in-Passed : goal.loop-i-preserved-in-Passed
loop-i-preserved-in-Passed c =
    let l = line_here c.args.s.now _ _ _ (YieldsList-turn c.loop-i.invariant.1 c.loop-i.yielded _ c.loop-i.yielded_by _ _ (c.in-Some.i, c.in-Some.text) c.in-Some.is c.next.ensures.steps) in
    let more = length_push c.loop-i.yielded (c.in-Some.i, c.in-Some.text) in
    (rw more (passed l c.loop-i.invariant.0 (sym c.read_line.ensures ∙ c.in-Passed.is)), c.loop-i.invariant.1)

pub returns-in-NotUnderstood : goal.returns-in-NotUnderstood
returns-in-NotUnderstood c =
    let l = line_here c.args.s.now _ _ _ (YieldsList-turn c.loop-i.invariant.1 c.loop-i.yielded _ c.loop-i.yielded_by _ _ (c.in-Some.i, c.in-Some.text) c.in-Some.is c.next.ensures.steps) in
    not_understood_lem l c.loop-i.invariant.0 (sym c.read_line.ensures ∙ c.in-NotUnderstood.is)

pub returns-in_err-map_err-in-Undo : goal.returns-in_err-map_err-in-Undo
returns-in_err-map_err-in-Undo c =
    let l = line_here c.args.s.now _ _ _ (YieldsList-turn c.loop-i.invariant.1 c.loop-i.yielded _ c.loop-i.yielded_by _ _ (c.in-Some.i, c.in-Some.text) c.in-Some.is c.next.ensures.steps) in
    let told : ◌≡◌ {A = Result Record Failure} c.from_residual.result (Err c.in_err-map_err-in-Undo.field-0.0) = search rules in
    let f = mapped _ _ _ c.map_err.ensures.cases _ c.in_err-map_err-in-Undo.was in
    let why : c.in_err-map_err-in-Undo.field-0.0 ≡ failure.Refused (c.in-Some.i + 1) f.0 = search rules in
    rw (told, why) (refused_undo l c.loop-i.invariant.0 (sym c.read_line.ensures ∙ c.in-Undo.is) _ c.undo.ensures f.0 f.1)

pub loop-i-preserved-in-Undo : goal.loop-i-preserved-in-Undo
loop-i-preserved-in-Undo c =
    let l = line_here c.args.s.now _ _ _ (YieldsList-turn c.loop-i.invariant.1 c.loop-i.yielded _ c.loop-i.yielded_by _ _ (c.in-Some.i, c.in-Some.text) c.in-Some.is c.next.ensures.steps) in
    let more = length_push c.loop-i.yielded (c.in-Some.i, c.in-Some.text) in
    let none = ok_number c.undo.result (search rules) in
    (rw more (undone l c.loop-i.invariant.0 (sym c.read_line.ensures ∙ c.in-Undo.is) _ c.undo.ensures none c.replay.result c.replay.ensures), c.loop-i.invariant.1)

pub returns-in_err-map_err-in-Entry : goal.returns-in_err-map_err-in-Entry
returns-in_err-map_err-in-Entry c =
    let l = line_here c.args.s.now _ _ _ (YieldsList-turn c.loop-i.invariant.1 c.loop-i.yielded _ c.loop-i.yielded_by _ _ (c.in-Some.i, c.in-Some.text) c.in-Some.is c.next.ensures.steps) in
    let told : ◌≡◌ {A = Result Record Failure} c.from_residual-in_err-map_err-in-Entry.result (Err c.in_err-map_err-in-Entry.field-0.0) = search rules in
    let f = mapped _ _ _ c.map_err-in-Entry.ensures.cases _ c.in_err-map_err-in-Entry.was in
    let why : c.in_err-map_err-in-Entry.field-0.0 ≡ failure.Refused (c.in-Some.i + 1) f.0 = search rules in
    rw (told, why) (refused_entry l c.loop-i.invariant.0 c.in-Entry.e (sym c.read_line.ensures ∙ c.in-Entry.is) _ _ c.add.ensures f.0 (sym (ap number_in f.1)))

pub push-requires : goal.push-requires
push-requires c =
    let l = line_here c.args.s.now _ _ _ (YieldsList-turn c.loop-i.invariant.1 c.loop-i.yielded _ c.loop-i.yielded_by _ _ (c.in-Some.i, c.in-Some.text) c.in-Some.is c.next.ensures.steps) in
    entry_room l c.loop-i.invariant.0 c.in-Entry.e (sym c.read_line.ensures ∙ c.in-Entry.is) _ _ c.add.ensures (ok_number c.add.result (search rules))

pub loop-i-preserved : goal.loop-i-preserved
loop-i-preserved c =
    let l = line_here c.args.s.now _ _ _ (YieldsList-turn c.loop-i.invariant.1 c.loop-i.yielded _ c.loop-i.yielded_by _ _ (c.in-Some.i, c.in-Some.text) c.in-Some.is c.next.ensures.steps) in
    let more = length_push c.loop-i.yielded (c.in-Some.i, c.in-Some.text) in
    let none = ok_number c.add.result (search rules) in
    (rw (more, c.push.ensures) (added_entry l c.loop-i.invariant.0 c.in-Entry.e (sym c.read_line.ensures ∙ c.in-Entry.is) _ _ c.add.ensures none c.add.new.self refl), c.loop-i.invariant.1)

pub returns : goal.returns
returns c =
    let e = YieldsList-end c.loop-i.invariant.1 c.loop-i.yielded _ c.loop-i.yielded_by _ _ c.in-None.is c.next.ensures.steps in
    all_read c.args.s.now c.loop-i.log c.loop-i.standing _ c.loop-i.invariant.0 (no_more c.args.s.now _ e.1)
