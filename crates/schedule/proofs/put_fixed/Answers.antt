-- `schedule::put_fixed` meets its contract: by the side of 0 that the number is on. Assumes nothing.
use Rattle.std.proofs.Common.{ap, ◌∙◌, append_assoc, List, [], ◌∷◌, ℕ, length, length-append, arith, to_z, of_z, w64}
use Rattle.std.proofs.lemmas.Int.{to_z-of_z}
use lib.Utf8.{encode}
use Rattle.arrayvec.specs.ArrayString.{ArrayString}
use Rattle.paper.specs.Placard.{hyphen}
use Rattle.schedule.specs.Schedules.{decimals}
use Rattle.schedule.proofs.Fixed.{fixed_below, fixed_from, fixed_some}
use Rattle.schedule.proofs.put_fixed.Goals as goal
use Rattle.schedule.proofs.put_fixed.Goals.{then-x-lt0, else-x-lt0}

abbrev bytes_of : ArrayString → List ℕ
bytes_of s = s.bytes

pub push-requires : goal.push-requires
unfolding encode
push-requires c = omega (arith, fixed_some c.args.k c.args.x)

pub put_decimals-requires-clause-room : goal.put_decimals-requires-clause-room
put_decimals-requires-clause-room c =
    let x = c.args.x in
    let k = c.args.k in
    let y = to_z w64 (of_z w64 x) in
    let back = to_z-of_z w64 x c.ranges.x in
    let n = c.unsigned_abs in
    elim c.if-x-lt0.branch [
      | then-x-lt0 w ↦ let next = ap bytes_of w.text-is ∙ w.push.ensures.ascii (omega arith) in omega (arith, ap length (fixed_below k x y n.result back w.if-x-lt0.true n.ensures.value), ap length next, length-append {A = ℕ})
      | else-x-lt0 w ↦ omega (arith, ap length (fixed_from k x y n.result back w.if-x-lt0.false n.ensures.value), ap length (ap bytes_of w.text-is))
    ]

pub returns : goal.returns
returns c =
    let x = c.args.x in
    let k = c.args.k in
    let y = to_z w64 (of_z w64 x) in
    let back = to_z-of_z w64 x c.ranges.x in
    let n = c.unsigned_abs in
    elim c.if-x-lt0.branch [
      | then-x-lt0 w ↦ rw (c.put_decimals.ensures, w.text-is, w.push.ensures.ascii (omega arith), fixed_below k x y n.result back w.if-x-lt0.true n.ensures.value) (append_assoc c.args.text.now.bytes (hyphen ∷ []) (decimals k n.result))
      | else-x-lt0 w ↦ rw (c.put_decimals.ensures, w.text-is, fixed_from k x y n.result back w.if-x-lt0.false n.ensures.value)
    ]
