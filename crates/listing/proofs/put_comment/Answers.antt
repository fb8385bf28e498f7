-- `listing::put_comment` meets its contract: the total, the moment and the centre behind their labels, and a line feed.
-- Assumes nothing.
use borrow.Author.Rules.{rules}
use mathlib.Core.Path.{◌≡◌, ap}
use mathlib.Core.List.{append_assoc}
use Prim.Native.Nat.{ℕ}
use native.Mathlib.Omega.{arith}
use lib.ListN.{length, length-append}
use lib.Utf8.{encode}
use mir.Facts.{to_z-of_z}
use mir.Syntax.{w64}
use mir.Val.{to_z, of_z}
use Rattle.listing.specs.Listings.{comment}
use Rattle.listing.proofs.Comments.{length-comment}
use Rattle.listing.proofs.put_comment.Goals as goal

pub push_str-requires : goal.push_str-requires
push_str-requires c = omega (arith, length-comment c.args.c)

pub put_halves-requires : goal.put_halves-requires
put_halves-requires c = omega (arith, length-comment c.args.c, c.push_str.ensures.len)

pub push_str-requires-2 : goal.push_str-requires-2
push_str-requires-2 c = omega (arith, length-comment c.args.c, ap length c.put_halves.ensures, length-append {A = ℕ})

pub put_signed_halves-requires : goal.put_signed_halves-requires
put_signed_halves-requires c =
    let x = c.args.c in
    let moment_back : to_z w64 (of_z w64 x.moment) ≡ x.moment = to_z-of_z {w = w64} (search rules) in
    rw moment_back (omega (arith, length-comment x, ap length c.put_halves.ensures, length-append {A = ℕ}))

pub push_str-requires-3 : goal.push_str-requires-3
push_str-requires-3 c =
    let x = c.args.c in
    let moment_back : to_z w64 (of_z w64 x.moment) ≡ x.moment = to_z-of_z {w = w64} (search rules) in
    omega (arith, length-comment x, ap length c.put_halves.ensures, ap length (rw moment_back at c.put_signed_halves.ensures), length-append {A = ℕ})

pub put_number-requires : goal.put_number-requires
put_number-requires c =
    let x = c.args.c in
    let moment_back : to_z w64 (of_z w64 x.moment) ≡ x.moment = to_z-of_z {w = w64} (search rules) in
    let centre_back : to_z w64 (of_z w64 x.centre) ≡ x.centre = to_z-of_z {w = w64} (search rules) in
    rw centre_back
    (omega (arith, length-comment x, ap length c.put_halves.ensures, ap length (rw moment_back at c.put_signed_halves.ensures), length-append {A = ℕ}))

pub push-requires : goal.push-requires
unfolding encode
push-requires c =
    let x = c.args.c in
    let moment_back : to_z w64 (of_z w64 x.moment) ≡ x.moment = to_z-of_z {w = w64} (search rules) in
    let centre_back : to_z w64 (of_z w64 x.centre) ≡ x.centre = to_z-of_z {w = w64} (search rules) in
    omega (arith, length-comment x, ap length c.put_halves.ensures, ap length (rw moment_back at c.put_signed_halves.ensures), ap length (rw centre_back at c.put_number.ensures), length-append {A = ℕ})

pub returns : goal.returns
unfolding comment
returns c =
    let x = c.args.c in
    let moment_back : to_z w64 (of_z w64 x.moment) ≡ x.moment = to_z-of_z {w = w64} (search rules) in
    let centre_back : to_z w64 (of_z w64 x.centre) ≡ x.centre = to_z-of_z {w = w64} (search rules) in
    rw (
      c.push.ensures.ascii (omega arith),
      rw centre_back at c.put_number.ensures,
      c.push_str-3.ensures.bytes,
      rw moment_back at c.put_signed_halves.ensures,
      c.push_str-2.ensures.bytes,
      c.put_halves.ensures,
      c.push_str.ensures.bytes,
    )
    (simp append_assoc)
