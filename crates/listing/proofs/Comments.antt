-- How long a comment is, by its parts; and a comment of whole grams. Assumes nothing.
use mathlib.Core.Path.{◌≡◌}
use mathlib.Core.List.{[], ◌∷◌, ◌++◌}
use Prim.Native.Nat.{ℕ, ◌+◌, ◌*◌}
use native.Mathlib.Omega.{arith}
use lib.IntN.{ℤ}
use lib.ListN.{length, length-append}
use Rattle.paper.specs.declared.CentreOfGravity.{CentreOfGravity}
use Rattle.paper.specs.Units.{half_grams}
use Rattle.paper.specs.Placard.{feed}
use Rattle.numerals.specs.Numerals.{decimal, numeral}
use Rattle.listing.specs.Listings.{total_text, moment_text, centre_text, halves, signed_halves, comment}
use Rattle.listing.proofs.Halves.{whole_total, whole_moment}

-- three labels of eight bytes, a line feed, and the numbers
pub length-comment : (c : CentreOfGravity) → length (comment c) ≡ 25 + length (halves c.total) + length (signed_halves c.moment) + length (numeral c.centre)
unfolding comment
length-comment c = simp length-append (omega arith)

-- Where total and moment are whole grams, a comment has their numbers.
pub whole_comment :
    (n : ℕ)
    (z centre : ℤ)
    → comment (record { total = 2 * n; moment = half_grams z; centre = centre }) ≡ total_text ++ decimal n ++ moment_text ++ numeral z ++ centre_text ++ numeral centre ++ feed ∷ []
unfolding comment
whole_comment n z centre = rw (whole_total n, whole_moment z)
