-- `fittings_of` meets its contract: each entry is noted behind those before it, where it is accepted. Assumes nothing.
use Rattle.std.proofs.Common.{◌≡◌, true, take}
use Rattle.paper.specs.Refusals.{accepted}
use Rattle.fittings.proofs.Notes.{tells_none}
use Rattle.inventory.proofs.Turns.{next_accepted, tells_next, tells_last}
use Rattle.inventory.proofs.fittings_of.Goals as goal

pub loop-e-init : goal.loop-e-init
loop-e-init c = tells_none c.new-fittings.result c.new-fittings.ensures

pub note-requires : goal.note-requires
note-requires c =
    let l = c.loop-e in
    let es = c.entries-e-items.result.now in
    let a : accepted es ≡ true = rw c.entries-e-items.ensures c.requires in
    (take l.e-index es, l.invariant, next_accepted es l.e-index _ c.loop-e-test.true a)

pub loop-e-preserved : goal.loop-e-preserved
loop-e-preserved c =
    let l = c.loop-e in
    let es = c.entries-e-items.result.now in
    let a : accepted es ≡ true = rw c.entries-e-items.ensures c.requires in
    let h = c.loop-e-test.true in
    tells_next es l.e-index _ c.note.new.self h (c.note.ensures (take l.e-index es) l.invariant (next_accepted es l.e-index _ h a))

pub returns : goal.returns
returns c =
    let l = c.loop-e in
    rw c.entries-e-items.ensures at (tells_last c.entries-e-items.result.now l.e-index l.fittings c.loop-e-test.false l.invariant)
