-- `schedule::put_sums` meets its contract: a label, and behind it the sums. Assumes nothing.
use Rattle.std.proofs.Common.{◌≡◌, append_assoc, rules, arith, to_z, of_z, w64, ◌∷◌, []}
use Rattle.std.proofs.lemmas.Int.{to_z-of_z}
use Rattle.schedule.specs.Schedules.{nets, sums}
use Rattle.schedule.proofs.Lines.{length-sums}
use Rattle.schedule.proofs.put_sums.Goals as goal

pub push_str-requires : goal.push_str-requires
push_str-requires c = omega (arith, length-sums c.args.items.now)

pub put_nets-requires : goal.put_nets-requires
put_nets-requires c =
    let s = c.sums_of-weight in
    let weight : to_z w64 (of_z w64 s.result.0) ≡ s.result.0 = to_z-of_z w64 s.result.0 (search rules) in
    let nonlifting : to_z w64 (of_z w64 s.result.1) ≡ s.result.1 = to_z-of_z w64 s.result.1 (search rules) in
    rw (weight, nonlifting, s.ensures.weight, s.ensures.nonlifting)
    (omega (arith, length-sums c.args.items.now, c.push_str.ensures.len))

pub returns : goal.returns
unfolding sums
returns c =
    let s = c.sums_of-weight in
    let weight : to_z w64 (of_z w64 s.result.0) ≡ s.result.0 = to_z-of_z w64 s.result.0 (search rules) in
    let nonlifting : to_z w64 (of_z w64 s.result.1) ≡ s.result.1 = to_z-of_z w64 s.result.1 (search rules) in
    rw (c.put_nets.ensures, weight, nonlifting, s.ensures.weight, s.ensures.nonlifting, c.push_str.ensures.bytes)
    (append_assoc c.args.text.now.bytes (115 ∷ 117 ∷ 109 ∷ []) (nets _ _))
