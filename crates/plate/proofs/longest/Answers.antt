-- `plate::longest` meets its contract: an accepted sheet has at most 256 rows of 36 bytes, and there is one with as many.
-- Assumes nothing.
use native.Mathlib.Omega.{arith}
use Rattle.paper.specs.Placard.{text_length}
use Rattle.sheet.proofs.Accepted.{accepted-sheet}
use Rattle.plate.proofs.Lengths.{largest, largest-accepted, largest-length}
use Rattle.plate.proofs.longest.Goals as goal

pub returns : goal.returns
unfolding text_length
returns c =
    record { most = λ s a. omega (arith, (accepted-sheet s a).steps.rows); reached = (largest, largest-accepted, largest-length) }
