-- `listing::put_listing` meets its contract. The loop's invariant: the entries so far are listed, and what stands in them
-- stands. Assumes nothing.
use mathlib.Core.Path.{◌≡◌}
use Rattle.judge.specs.Standing.{stands_in, plainly}
use Rattle.record.proofs.Replays.{held_to}
use Rattle.listing.specs.Listings.{listing}
use Rattle.listing.proofs.put_listing.Given as goal

abbrev pub invariant-loop-e : goal.invariant-loop-e
invariant-loop-e l =
    (plainly l.standing ≡ stands_in (held_to l.e-items l.e-index)) × (l.text.bytes ≡ listing (held_to l.e-items l.e-index))
