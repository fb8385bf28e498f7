-- `schedule::schedule_of` meets its contract. The loop's invariant: the lines so far are written. Assumes nothing.
use Rattle.std.proofs.Common.{ap, ◌∙◌, ◌++◌, arith}
use Rattle.paper.specs.Rows.{joined}
use Rattle.schedule.specs.Schedules.{sums}
use Rattle.schedule.proofs.Lines.{line_room, sums_room, lines_more, lines_all}
use Rattle.schedule.proofs.schedule_of.Goals as goal

pub loop-e-init : goal.loop-e-init
unfolding joined
loop-e-init c = c.new-text.ensures

pub put_line-requires : goal.put_line-requires
put_line-requires c =
    let l = c.loop-e in
    line_room c.args.items.now l.e-index _ l.text.bytes (omega (arith, c.requires.count)) l.invariant

pub loop-e-preserved : goal.loop-e-preserved
loop-e-preserved c =
    let l = c.loop-e in
    lines_more c.args.items.now l.e-index _ l.text.bytes c.put_line.new.text.bytes (omega arith) l.invariant c.put_line.ensures

pub put_sums-requires-clause-room : goal.put_sums-requires-clause-room
put_sums-requires-clause-room c =
    let l = c.loop-e in
    sums_room c.args.items.now l.e-index l.text.bytes (omega (arith, c.requires.count)) l.invariant

pub returns : goal.returns
returns c =
    let l = c.loop-e in
    let es = c.args.items.now in
    c.put_sums.ensures ∙ ap (λ s. s ++ sums es) l.invariant ∙ lines_all es l.e-index (omega arith)
