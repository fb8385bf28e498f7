-- What the call answers: by whether the buffer is too short for the listing, which stands at the beginning of what is copied.
-- Assumes nothing.
use mathlib.Core.Path.{◌≡◌, ◌∙◌}
use mathlib.Core.List.{List}
use Prim.Native.Nat.{ℕ, ◌≤◌, ◌<◌}
use lib.ListN.{length}
use Rattle.std.specs.Prelude.{Result, Ok, Err}
use borrow.Author.Tests.{lt-ltb, le-ltb}
use Rattle.laws.specs.Written.{written, written_first}
use Rattle.paper.specs.declared.Entry.{Entry}
use Rattle.paper.specs.declared.Refusal.{Refusal}
use Rattle.paper.specs.declared.Refusal.TheVariants as refusal
use Rattle.paper.specs.Numbers.{refusal_of}
use Rattle.paper.specs.Refusals.{first_number}
use Rattle.paper.specs.Answers.{over, written_by}
use Rattle.listing.specs.Listings.{listing, listed_answer}

pub too_short : (es : List Entry) (s : List ℕ) → length s < length (listing es) → ◌≡◌ {A = Result ℕ Refusal × List ℕ} (Err refusal.ShortBuffer, s) (listed_answer es s)
unfolding listed_answer written_by first_number refusal_of
too_short es s h = rw (lt-ltb (length s) (length (listing es)) h)

pub long_enough : (es : List Entry) (s : List ℕ) (n : ℕ) (out : List ℕ) → length (listing es) ≤ length s → n ≡ length (listing es) → out ≡ over (listing es) s → ◌≡◌ {A = Result ℕ Refusal × List ℕ} (Ok n, out) (listed_answer es s)
unfolding listed_answer written_by first_number
long_enough es s n out h e k = rw (le-ltb (length s) (length (listing es)) h, e, k)

-- what is copied
pub copied : (s out xs ys : List ℕ) → ys ≡ xs → out ≡ written s 0 ys → out ≡ over xs s
unfolding over
copied s out xs ys e f = f ∙ rw e (written_first s xs)
