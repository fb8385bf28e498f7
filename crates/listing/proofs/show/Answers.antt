-- `listing::show` meets its contract: what is copied is the listing of the record's list. Assumes nothing.
use mathlib.Core.Path.{ap, ◌∙◌}
use native.Mathlib.Omega.{arith}
use lib.ListN.{length}
use Rattle.record.specs.Held.{held_by}
use Rattle.listing.specs.Listings.{listing}
use Rattle.listing.proofs.Answers.{too_short, long_enough, copied}
use Rattle.listing.proofs.show.Goals as goal

pub returns-then-out-len : goal.returns-then-out-len
returns-then-out-len c =
    let a = c.args in
    let size = c.len.ensures.value ∙ ap length c.put_listing.ensures in
    too_short (held_by a.r.now) a.out.now (omega (arith, size))

pub returns : goal.returns
returns c =
    let a = c.args in
    let held = held_by a.r.now in
    let size = c.len.ensures.value ∙ ap length c.put_listing.ensures in
    let text = c.as_bytes.ensures.value ∙ c.deref.ensures.0 ∙ c.put_listing.ensures in
    long_enough held a.out.now _ _ (omega (arith, size)) (c.copy.ensures.0 ∙ ap length text)
    (copied a.out.now c.copy.new.out (listing held) c.as_bytes.result.now text c.copy.ensures.1)
