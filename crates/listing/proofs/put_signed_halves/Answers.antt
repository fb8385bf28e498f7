-- `listing::put_signed_halves` meets its contract: by the side of 0 that they are on. Assumes nothing.
use mathlib.Core.Path.{ap, ◌∙◌}
use Prim.Native.Nat.{ℕ}
use native.Mathlib.Omega.{arith}
use lib.ListN.{length, length-append}
use lib.Utf8.{encode}
use mir.Facts.{to_z-of_z}
use mir.Syntax.{w64}
use mir.Val.{to_z, of_z}
use mathlib.Core.List.{List, [], ◌∷◌, append_assoc}
use Rattle.arrayvec.specs.ArrayString.{ArrayString}
use Rattle.paper.specs.Placard.{hyphen}
use Rattle.listing.specs.Listings.{halves}
use Rattle.listing.proofs.Halves.{signed_below, signed_from, signed_some}
use Rattle.listing.proofs.put_signed_halves.Goals as goal
use Rattle.listing.proofs.put_signed_halves.Goals.{then-x-lt0, else-x-lt0}

abbrev bytes_of : ArrayString → List ℕ
bytes_of s = s.bytes

pub push-requires : goal.push-requires
unfolding encode
push-requires c = omega (arith, signed_some c.args.x)

pub put_halves-requires : goal.put_halves-requires
put_halves-requires c =
    let x = c.args.x in
    let y = to_z w64 (of_z w64 x) in
    let back = to_z-of_z c.ranges.x in
    let n = c.unsigned_abs in
    elim c.if-x-lt0.branch [
      | then-x-lt0 w ↦ let next = ap bytes_of w.text-is ∙ w.push.ensures.ascii (omega arith) in omega (arith, ap length (signed_below x y n.result back w.if-x-lt0.true n.ensures.value), ap length next, length-append {A = ℕ})
      | else-x-lt0 w ↦ omega (arith, ap length (signed_from x y n.result back w.if-x-lt0.false n.ensures.value), ap length (ap bytes_of w.text-is))
    ]

pub returns : goal.returns
returns c =
    let x = c.args.x in
    let y = to_z w64 (of_z w64 x) in
    let back = to_z-of_z c.ranges.x in
    let n = c.unsigned_abs in
    elim c.if-x-lt0.branch [
      | then-x-lt0 w ↦ rw (c.put_halves.ensures, w.text-is, w.push.ensures.ascii (omega arith), signed_below x y n.result back w.if-x-lt0.true n.ensures.value) (append_assoc c.args.text.now.bytes (hyphen ∷ []) (halves n.result))
      | else-x-lt0 w ↦ rw (c.put_halves.ensures, w.text-is, signed_from x y n.result back w.if-x-lt0.false n.ensures.value)
    ]
