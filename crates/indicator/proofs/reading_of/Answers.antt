-- `indicator::reading_of` meets its contract: the first of nine bytes is the state, and the other eight spell a pattern. Assumes
-- nothing.
use Rattle.std.proofs.Common.{ap, ◌∙◌}
use Rattle.std.specs.Int.{w64, from_be_bytes}
use Rattle.paper.specs.Indicator.{reading_by}
use Rattle.indicator.proofs.Bytes.{no_bytes, other_length, nine_bytes}
use Rattle.indicator.proofs.reading_of.Goals as goal

pub returns-in_err-state : goal.returns-in_err-state
returns-in_err-state c = rw c.from_residual.ensures (no_bytes c.args.s.now c.in_err-state.ensures.cases)

pub returns-in_err-as_array : goal.returns-in_err-as_array
returns-in_err-as_array c =
    rw c.from_residual-in_err-as_array.ensures (other_length _ _ _ c.in_ok-state.ensures.cases.0 c.in_err-as_array.ensures.cases)

pub returns : goal.returns
returns c =
    let cut = c.in_ok-state.ensures.cases.0 in
    let eight = c.in_ok-as_array.ensures.cases in
    let spells = c.from_be_bytes-pattern.ensures ∙ ap (from_be_bytes w64) eight.same in
    c.reading_by.ensures
    ∙ ap (reading_by c.in_ok-state.state.now) c.of_bits.ensures
    ∙ nine_bytes _ _ _ cut _ eight.long (λ i. (c.type_inv.s i).fits) c.from_be_bytes-pattern.type_inv spells
