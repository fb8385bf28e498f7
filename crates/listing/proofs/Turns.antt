-- The listing of a list with one entry more, by recursion on the list; and which entries have a comment. Assumes nothing.
use mathlib.Core.Path.{◌≡◌, refl, ap, ◌∙◌}
use mathlib.Core.List.{List, [], ◌∷◌, ◌++◌, append_assoc, append-nil}
use Prim.Native.Nat.{ℕ}
use Rattle.std.specs.Prelude.{Ok}
use Rattle.paper.specs.declared.Entry.{Entry}
use Rattle.paper.specs.declared.Entry.TheVariants as entry
use Rattle.paper.specs.declared.Sheet.{Sheet}
use Rattle.paper.specs.declared.Seat.{Seat}
use Rattle.paper.specs.declared.CentreOfGravity.{CentreOfGravity}
use Rattle.paper.specs.Answers.{centre_answer}
use Rattle.listing.specs.Listings.{comment, remark, lines_of, listed_after, listing}

-- the first entries of what is listed behind a list, and the others
listed-append : (es fs gs : List Entry) → listed_after es (fs ++ gs) ≡ listed_after es fs ++ listed_after (es ++ fs) gs
unfolding listed_after
listed-append es [] gs = rw (append-nil es)
listed-append es (f ∷ fs) gs =
    let ls = lines_of (centre_answer (es ++ f ∷ [])) f in
    rw (listed-append (es ++ f ∷ []) fs gs, append_assoc es (f ∷ []) fs, append_assoc ls (listed_after (es ++ f ∷ []) fs) (listed_after (es ++ f ∷ fs) gs))

pub listing-more : (fs : List Entry) (f : Entry) → listing (fs ++ f ∷ []) ≡ listing fs ++ lines_of (centre_answer (fs ++ f ∷ [])) f
unfolding listing listed_after
listing-more fs f = listed-append [] fs (f ∷ []) ∙ ap (λ (l : List ℕ). listed_after [] fs ++ l) (append-nil (lines_of (centre_answer (fs ++ f ∷ [])) f))

-- an entry that is no sheet and no seat has a comment, where the list comes to c
pub commented : (c : CentreOfGravity) (e : Entry) → ((s : Sheet) → e ≡ entry.Sheet s → ⊥) → ((f : Seat) → e ≡ entry.Seat f → ⊥) → remark (Ok c) e ≡ comment c
unfolding remark
commented c (entry.Weighing w) h k = refl
commented c (entry.Sheet s) h k = absurd (h s refl)
commented c (entry.Change x) h k = refl
commented c (entry.Paired x) h k = refl
commented c (entry.Seat f) h k = absurd (k f refl)
