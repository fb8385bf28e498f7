-- The entries in a record's slots in turn: one that is refused is passed over, and the lines of one that is accepted find room
-- behind those of the others. Assumes nothing.
use mathlib.Core.Path.{◌≡◌, sym, ap, ◌∙◌}
use mathlib.Core.List.{List, [], ◌∷◌, ◌++◌}
use Prim.Native.Nat.{ℕ, ◌+◌, ◌≤◌, ◌<◌}
use native.Mathlib.Omega.{arith}
use lib.ListN.{length, get_or}
use Rattle.std.specs.Prelude.{Result}
use Rattle.paper.specs.declared.Entry.{Entry}
use Rattle.paper.specs.declared.CentreOfGravity.{CentreOfGravity}
use Rattle.paper.specs.declared.Refusal.{Refusal}
use Rattle.paper.specs.Refusals.{entry_number}
use Rattle.paper.specs.Answers.{centre_answer}
use Rattle.judge.specs.Standing.{Stands, stands_in, judged, kept_behind}
use Rattle.judge.proofs.Following.{kept_added, kept_same, judged_at}
use Rattle.judge.proofs.Accepted.{room_for}
use Rattle.record.proofs.Replays.{held_to, held_more}
use Rattle.listing.specs.Listings.{lines_of, listing}
use Rattle.listing.proofs.Sizes.{lines_most, listing_most}
use Rattle.listing.proofs.Turns.{listing-more}

-- the next entry, by its judgement
module _ (slots : List Entry) (i : ℕ) (d : Entry) (o p : Stands) (n : ℕ) (h : i < length slots) (at : o ≡ stands_in (held_to slots i)) (j : ◌≡◌ {A = ℕ × Stands} (n, p) (judged o (get_or slots i d))) where
  abbrev es : List Entry
  es = held_to slots i

  abbrev e : Entry
  e = get_or slots i d

  told : (n ≡ entry_number es e) × (p ≡ stands_in (kept_behind es e))
  told = judged_at es o p e n at j

  next : held_to slots (i + 1) ≡ kept_behind es e
  next = held_more slots i d h

  pub stands-more : p ≡ stands_in (held_to slots (i + 1))
  stands-more = told.1 ∙ ap stands_in (sym next)

  pub passed : 0 < n → held_to slots (i + 1) ≡ es
  passed k = next ∙ kept_same es e (rw told.0 at k)

  -- an entry that gets no number
  module _ (z : n ≡ 0) where
    none : entry_number es e ≡ 0
    none = sym told.0 ∙ z

    more : held_to slots (i + 1) ≡ es ++ e ∷ []
    more = next ∙ kept_added es e none

    pub stands_is : p ≡ stands_in (es ++ e ∷ [])
    stands_is = stands-more ∙ ap stands_in more

    pub room-within : length (listing es) + 430 ≤ 27520
    room-within = omega (arith, listing_most es, room_for es e none)

    pub lines-within : (c : Result CentreOfGravity Refusal) → length (listing es) + length (lines_of c e) ≤ 27520
    lines-within c = omega (arith, lines_most c e, room-within)

    pub lines_more : (c : Result CentreOfGravity Refusal) → c ≡ centre_answer (es ++ e ∷ []) → listing es ++ lines_of c e ≡ listing (held_to slots (i + 1))
    lines_more c a =
        ap (λ (x : Result CentreOfGravity Refusal). listing es ++ lines_of x e) a ∙ sym (listing-more es e)
        ∙ ap listing (sym more)
