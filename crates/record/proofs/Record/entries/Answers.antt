-- `Record::entries` meets its contract: all slots are in use where the count is beyond them. Assumes nothing.
use Rattle.std.proofs.Common.{◌≡◌, ◌∙◌, length, arith, rules, take_all}
use Rattle.std.proofs.Math.Nat.{min-eq_left, min-eq_right}
use native.Mathlib.Decide.{dec_le}
use Rattle.record.specs.Held.{slotted}
use Rattle.record.proofs.Record.entries.Goals as goal

pub returns : goal.returns
unfolding slotted
returns c =
    let r = c.args.self.now in
    let all : length r.slots ≡ 64 = search rules in
    elim (dec_le r.count 64) [
      | yes k ↦ rw (c.min.ensures ∙ min-eq_left k)
      | no k ↦ rw (c.min.ensures ∙ min-eq_right (omega arith), take_all 64 r.slots (omega arith), take_all r.count r.slots (omega arith))
    ]
