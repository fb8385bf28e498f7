-- `record::replay` meets its contract: each entry is passed over, or put behind the others. Assumes nothing.
use Rattle.std.proofs.Common.{refl, sym, ap, length, ◌<◌, arith}
use Rattle.record.specs.Held.{replayed}
use Rattle.record.proofs.Replays.{held_all, one_more, room, gone_on, passed_over}
use Rattle.record.proofs.Calls.{ok_number, err_number}
use Rattle.record.proofs.replay.Goals as goal
use Rattle.record.proofs.replay.Goals.{then-is_ok, else-is_ok}

pub loop-e-init : goal.loop-e-init
unfolding replayed
loop-e-init c = record { log = c.fresh-log.ensures; stands = c.new-standing.ensures }

pub push-requires : goal.push-requires
push-requires c = room _ _ c.loop-e.invariant _ _ _ c.add.ensures (ok_number _ (sym c.if-is_ok.ensures.value))

pub loop-e-preserved : goal.loop-e-preserved
loop-e-preserved c =
    let l = c.loop-e in
    let es = c.entries-e-items.result.now in
    let here : l.e-index < length es = omega arith in
    elim c.if-is_ok.branch [
      | then-is_ok w ↦
          rw (w.log-is, w.push.ensures)
          (one_more es l.e-index _ _ here (gone_on _ _ l.invariant _ _ _ c.add.ensures c.add.new.self refl (ok_number _ (sym w.if-is_ok.ensures.value))))
      | else-is_ok w ↦
          rw w.log-is
          (one_more es l.e-index _ _ here (passed_over _ _ l.invariant _ _ _ c.add.ensures c.add.new.self refl (err_number _ (sym w.if-is_ok.ensures.value))))
    ]

pub returns : goal.returns
returns c =
    let l = c.loop-e in
    rw (c.entries-e-items.ensures, held_all c.args.r.now l.e-index (omega (arith, ap length c.entries-e-items.ensures))) at l.invariant
