-- `schedule::put_nets` meets its contract: a net behind each space, and a line feed. Assumes nothing.
use Rattle.std.proofs.Common.{◌≡◌, ap, append_assoc, ℕ, length, length-append, arith, to_z, of_z, w64}
use Rattle.std.proofs.lemmas.Int.{to_z-of_z}
use lib.Utf8.{encode}
use Rattle.schedule.specs.Schedules.{nets}
use Rattle.schedule.proofs.Lines.{length-nets}
use Rattle.schedule.proofs.put_nets.Goals as goal

pub push-requires : goal.push-requires
unfolding encode
push-requires c = omega (arith, length-nets c.args.weight c.args.nonlifting)

pub put_fixed-requires-clause-room : goal.put_fixed-requires-clause-room
put_fixed-requires-clause-room c =
    let a = c.args in
    let w : to_z w64 (of_z w64 a.weight) ≡ a.weight = to_z-of_z w64 a.weight c.ranges.weight in
    rw w (omega (arith, length-nets a.weight a.nonlifting, ap length (c.push.ensures.ascii (omega arith)), length-append {A = ℕ}))

pub push-requires-2 : goal.push-requires-2
unfolding encode
push-requires-2 c =
    let a = c.args in
    let w : to_z w64 (of_z w64 a.weight) ≡ a.weight = to_z-of_z w64 a.weight c.ranges.weight in
    omega (arith, length-nets a.weight a.nonlifting, ap length (c.push.ensures.ascii (omega arith)), ap length (rw w at c.put_fixed.ensures), length-append {A = ℕ})

pub put_fixed-requires-2-clause-room : goal.put_fixed-requires-2-clause-room
put_fixed-requires-2-clause-room c =
    let a = c.args in
    let w : to_z w64 (of_z w64 a.weight) ≡ a.weight = to_z-of_z w64 a.weight c.ranges.weight in
    let n : to_z w64 (of_z w64 a.nonlifting) ≡ a.nonlifting = to_z-of_z w64 a.nonlifting c.ranges.nonlifting in
    rw n
    (omega (arith, length-nets a.weight a.nonlifting, ap length (c.push.ensures.ascii (omega arith)), ap length (rw w at c.put_fixed.ensures), ap length (c.push-2.ensures.ascii (omega arith)), length-append {A = ℕ}))

pub push-requires-3 : goal.push-requires-3
unfolding encode
push-requires-3 c =
    let a = c.args in
    let w : to_z w64 (of_z w64 a.weight) ≡ a.weight = to_z-of_z w64 a.weight c.ranges.weight in
    let n : to_z w64 (of_z w64 a.nonlifting) ≡ a.nonlifting = to_z-of_z w64 a.nonlifting c.ranges.nonlifting in
    omega (arith, length-nets a.weight a.nonlifting, ap length (c.push.ensures.ascii (omega arith)), ap length (rw w at c.put_fixed.ensures), ap length (c.push-2.ensures.ascii (omega arith)), ap length (rw n at c.put_fixed-2.ensures), length-append {A = ℕ})

pub returns : goal.returns
unfolding nets
returns c =
    let a = c.args in
    let w : to_z w64 (of_z w64 a.weight) ≡ a.weight = to_z-of_z w64 a.weight c.ranges.weight in
    let n : to_z w64 (of_z w64 a.nonlifting) ≡ a.nonlifting = to_z-of_z w64 a.nonlifting c.ranges.nonlifting in
    rw (
      c.push-3.ensures.ascii (omega arith),
      rw n at c.put_fixed-2.ensures,
      c.push-2.ensures.ascii (omega arith),
      rw w at c.put_fixed.ensures,
      c.push.ensures.ascii (omega arith),
    )
    (simp append_assoc)
