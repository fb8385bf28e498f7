-- `listing::put_listing` meets its contract. The loop's invariant: the entries so far are listed, and what stands in them
-- stands. Assumes nothing.
use borrow.Author.Rules.{rules}
use mathlib.Core.Path.{◌≡◌, sym, ap, ◌∙◌}
use Prim.Native.Nat.{◌<◌}
use native.Mathlib.Omega.{arith}
use lib.ListN.{length}
use Rattle.record.specs.Held.{slotted, replayed}
use Rattle.record.proofs.Calls.{ok_number, err_number}
use Rattle.record.proofs.Replays.{held_to, held_all}
use Rattle.listing.specs.Listings.{listed_after, listing}
use Rattle.listing.proofs.Slots.{passed, room-within, lines_more, stands_is, stands-more}
use Rattle.listing.proofs.put_listing.Goals as goal
use Rattle.listing.proofs.put_listing.Goals.{then-is_ok, else-is_ok}

pub loop-e-init : goal.loop-e-init
unfolding listing listed_after replayed
loop-e-init c = (c.new-standing.ensures, c.requires)

pub put_lines-requires : goal.put_lines-requires
put_lines-requires c =
    let l = c.loop-e in
    let es = c.entries-e-items.result.now in
    let here : l.e-index < length es = omega arith in
    let none = ok_number c.add.result (search rules) in
    omega (arith, room-within es l.e-index _ _ _ _ here l.invariant.0 c.add.ensures none, ap length l.invariant.1)

pub loop-e-preserved : goal.loop-e-preserved
loop-e-preserved c =
    let l = c.loop-e in
    let es = c.entries-e-items.result.now in
    let here : l.e-index < length es = omega arith in
    let stands = stands-more es l.e-index _ _ _ _ here l.invariant.0 c.add.ensures in
    elim c.if-is_ok.branch [
      | then-is_ok w ↦
          let none = ok_number _ (sym w.if-is_ok.ensures.value) in
          let comes_to = w.answer.ensures _ (stands_is es l.e-index _ _ _ _ here l.invariant.0 c.add.ensures none) in (
            stands,
            rw (w.text-is, w.put_lines.ensures, l.invariant.1)
                (lines_more es l.e-index _ _ _ _ here l.invariant.0 c.add.ensures none w.answer.result comes_to),
          )
      | else-is_ok w ↦
          let refused = err_number _ (sym w.if-is_ok.ensures.value) in
          (stands, rw (w.text-is, passed es l.e-index _ _ _ _ here l.invariant.0 c.add.ensures refused) l.invariant.1)
    ]

pub returns : goal.returns
returns c =
    let l = c.loop-e in
    let r = c.args.r.now in
    let held : held_to (slotted r) l.e-index ≡ _ = held_all r l.e-index (omega (arith, ap length c.entries-e-items.ensures)) in
    l.invariant.1 ∙ ap listing (rw (sym c.entries-e-items.ensures) at held)
