-- How long the parts of a listing are, and the most that it takes. Assumes nothing.
use mathlib.Core.Path.{◌≡◌}
use mathlib.Core.List.{List, [], ◌∷◌, ◌++◌}
use Prim.Native.Nat.{◌+◌, ◌*◌, ◌≤◌}
use native.Mathlib.Omega.{arith}
use Rattle.std.specs.Prelude.{Result, Ok, Err}
use lib.ListN.{length, length-append}
use Rattle.paper.specs.declared.Entry.{Entry}
use Rattle.paper.specs.declared.Entry.TheVariants as entry
use Rattle.paper.specs.declared.CentreOfGravity.{CentreOfGravity}
use Rattle.paper.specs.declared.Refusal.{Refusal}
use Rattle.paper.specs.Placard.{feed}
use Rattle.paper.specs.Answers.{centre_answer}
use Rattle.numerals.proofs.Words.{numeral_most}
use Rattle.wording.specs.Texts.{entry_text}
use Rattle.wording.proofs.Plain.{text_most}
use Rattle.listing.specs.Listings.{comment, comes_to, remark, lines_of, listed_after, listing}
use Rattle.listing.proofs.Halves.{halves_most, signed_most}
use Rattle.listing.proofs.Comments.{length-comment}

-- ---- a comment

comment_most : (c : CentreOfGravity) → length (comment c) ≤ 91
comment_most c = omega (arith, length-comment c, halves_most c.total, signed_most c.moment, numeral_most c.centre)

-- ---- the lines of an entry

pub length-lines : (c : Result CentreOfGravity Refusal) (e : Entry) → length (lines_of c e) ≡ length (entry_text e) + 1 + length (remark c e)
unfolding lines_of
length-lines c e = omega (arith, length-append (entry_text e) (feed ∷ remark c e))

comes_to_most : (c : Result CentreOfGravity Refusal) → length (comes_to c) ≤ 91
comes_to_most (Ok c) = comment_most c
comes_to_most (Err f) = omega arith

remark_most : (c : Result CentreOfGravity Refusal) (e : Entry) → length (remark c e) ≤ 91
unfolding remark
remark_most c (entry.Weighing w) = comes_to_most c
remark_most c (entry.Sheet s) = omega arith
remark_most c (entry.Change x) = comes_to_most c
remark_most c (entry.Paired x) = comes_to_most c
remark_most c (entry.Seat f) = omega arith

pub lines_most : (c : Result CentreOfGravity Refusal) (e : Entry) → length (lines_of c e) ≤ 430
lines_most c e = omega (arith, length-lines c e, text_most e, remark_most c e)

-- ---- all

listed_most : (es fs : List Entry) → length (listed_after es fs) ≤ 430 * length fs
unfolding listed_after
listed_most es [] = omega arith
listed_most es (f ∷ fs) =
    let gs = es ++ f ∷ [] in
    omega (arith, length-append (lines_of (centre_answer gs) f) (listed_after gs fs), lines_most (centre_answer gs) f, listed_most gs fs)

pub listing_most : (es : List Entry) → length (listing es) ≤ 430 * length es
unfolding listing
listing_most es = listed_most [] es
