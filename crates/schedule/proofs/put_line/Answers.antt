-- `schedule::put_line` meets its contract: the arm, and behind it the nets. Assumes nothing.
use Rattle.std.proofs.Common.{◌≡◌, ap, append_assoc, rules, ℕ, length, length-append, arith, to_z, of_z, w64}
use Rattle.std.proofs.lemmas.Int.{to_z-of_z}
use Rattle.schedule.specs.Schedules.{fixed, nets, line_of}
use Rattle.schedule.proofs.Lines.{length-line}
use Rattle.schedule.proofs.put_line.Goals as goal

pub put_fixed-requires-clause-room : goal.put_fixed-requires-clause-room
put_fixed-requires-clause-room c =
    let e = c.args.e in
    let arm : to_z w64 (of_z w64 e.arm) ≡ e.arm = to_z-of_z w64 e.arm (search rules) in
    rw arm (omega (arith, length-line e))

pub put_nets-requires : goal.put_nets-requires
put_nets-requires c =
    let e = c.args.e in
    let arm : to_z w64 (of_z w64 e.arm) ≡ e.arm = to_z-of_z w64 e.arm (search rules) in
    let weight : to_z w64 (of_z w64 e.weight) ≡ e.weight = to_z-of_z w64 e.weight (search rules) in
    let nonlifting : to_z w64 (of_z w64 e.nonlifting) ≡ e.nonlifting = to_z-of_z w64 e.nonlifting (search rules) in
    rw (weight, nonlifting) (omega (arith, length-line e, ap length (rw arm at c.put_fixed.ensures), length-append {A = ℕ}))

pub returns : goal.returns
unfolding line_of
returns c =
    let e = c.args.e in
    let arm : to_z w64 (of_z w64 e.arm) ≡ e.arm = to_z-of_z w64 e.arm (search rules) in
    let weight : to_z w64 (of_z w64 e.weight) ≡ e.weight = to_z-of_z w64 e.weight (search rules) in
    let nonlifting : to_z w64 (of_z w64 e.nonlifting) ≡ e.nonlifting = to_z-of_z w64 e.nonlifting (search rules) in
    rw (c.put_nets.ensures, weight, nonlifting, rw arm at c.put_fixed.ensures)
    (append_assoc c.args.text.now.bytes (fixed 2 e.arm) (nets e.weight e.nonlifting))
