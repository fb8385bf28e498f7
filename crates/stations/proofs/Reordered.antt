-- The same changes in another order come to the same: a sum over ℤ is a difference of two sums over ℕ, which no exchange alters, and
-- of a list the entries that are no change give weighing, sheet and seat, the last stretch the changes behind that weighing. Assumes nothing.
use Rattle.std.specs.Prelude.{◌≡◌, refl, Bool, cond, List, [], ◌∷◌, ℕ, ℤ, pos, ◌*ℤ◌}
use Rattle.std.proofs.Common.{sym, ap, ◌∙◌, arith}
use Rattle.std.proofs.Math.Option.{Option, none, some, map, some-injective, or_else}
use mathlib.Core.List as list
use Rattle.std.proofs.lemmas.List.Sums.{sum_by-cons}
use Rattle.std.proofs.lemmas.List.Sorted.{IsPermutation-refl, sum_by-IsPermutation, list_any-IsPermutation}
use Rattle.std.specs.List.{filter, list_any, AllZip, sum_by}
use Rattle.std.specs.List.Sorted.{IsPermutation}
use Rattle.laws.specs.Z.{Is, up, dn, is_nat, is_int, is_add, same}
use Rattle.laws.specs.Options.{none_either, or_none}
use Rattle.paper.specs.declared.Change.{Change}
use Rattle.paper.specs.declared.Entry.{Entry}
use Rattle.paper.specs.declared.Entry.TheVariants as entry
use Rattle.paper.specs.Record.{Balance, Readings, alike, paired, weighed, changed_by, changes_of, opened, last_weighing, balance_of, sheet_of, sheet_stands, seat_of}
use Rattle.paper.specs.Equipment.{total, nonlifting_part, is_at, equipment_at, FromNose, arms_of, equipment_of, changes_behind, fitted, unchanging, in_first, stretches, SameButOrder}
use Rattle.paper.specs.Refusals.{centre_number, equipment_too_long, equipment_number, placard_number}
use Rattle.paper.specs.Answers.{centre_answer, equipment_answer, placard_answer}
use Rattle.stations.proofs.Arms.{arms_are, only_arms}
use Rattle.stations.proofs.Sums.{changed_by_sums}
use Rattle.stations.proofs.Totals.{total-filter}

-- ---- a list of changes

-- a sum over ℤ, by what is above 0 and what is below
total_is : {A : Type 0} (f : A → ℤ) (xs : List A) → Is (total f xs) (sum_by (λ (x : A). up (f x)) xs) (sum_by (λ (x : A). dn (f x)) xs)
unfolding total
total_is f [] = is_nat 0
total_is f (x ∷ xs) =
    rw (sum_by-cons (λ (y : _). up (f y)) x xs, sum_by-cons (λ (y : _). dn (f y)) x xs) (is_add (is_int (f x)) (total_is f xs))

total_permuted : {A : Type 0} (f : A → ℤ) (xs ys : List A) → IsPermutation xs ys → total f xs ≡ total f ys
total_permuted f xs ys h =
    let u = sum_by-IsPermutation (λ (x : _). up (f x)) xs ys h in
    let d = sum_by-IsPermutation (λ (x : _). dn (f x)) xs ys h in
    same (total_is f xs) (total_is f ys) (omega (arith, u, d))

reordered_balance : (b : Balance) (xs ys : List Change) → IsPermutation xs ys → changed_by b xs ≡ changed_by b ys
reordered_balance b xs ys h =
    changed_by_sums b xs
    ∙ rw (
      total_permuted (λ (x : Change). x.c) xs ys h,
      total_permuted (λ (x : Change). x.c *ℤ x.arm) xs ys h,
      total_permuted nonlifting_part xs ys h,
    ) (sym (changed_by_sums b ys))

-- the same is at each arm
same_tests : (xs ys : List Change) → IsPermutation xs ys → (a : ℤ) → list_any (is_at a) xs ≡ list_any (is_at a) ys
same_tests xs ys h a = list_any-IsPermutation (is_at a) xs ys h

filter_permuted : {A : Type 0} (f : A → ℤ) (p : A → Bool) (xs ys : List A) → IsPermutation xs ys → total f (filter p xs) ≡ total f (filter p ys)
filter_permuted f p xs ys h =
    total-filter f p xs ∙ total_permuted (λ (x : _). cond (p x) (f x) (pos 0)) xs ys h ∙ sym (total-filter f p ys)

same_nets : (xs ys : List Change) → IsPermutation xs ys → (a : ℤ) → equipment_at xs a ≡ equipment_at ys a
unfolding equipment_at
same_nets xs ys h a =
    rw (filter_permuted (λ (x : Change). x.c) (is_at a) xs ys h, filter_permuted nonlifting_part (is_at a) xs ys h)

-- and so it is at the same arms
same_stations : (xs ys : List Change) → IsPermutation xs ys → (arms : List ℤ) → FromNose xs arms → FromNose ys arms
same_stations xs ys h arms f = record { rising = f.rising; each = λ a. f.each a ∙ same_tests xs ys h a }

-- so they come to the same by station
pub same_list : (xs ys : List Change) → IsPermutation xs ys → equipment_of xs ≡ equipment_of ys
unfolding equipment_of
same_list xs ys h =
    rw (only_arms ys (arms_of xs) (same_stations xs ys h (arms_of xs) (arms_are xs))) (each_net (arms_of ys))
  where
    each_net : (arms : List ℤ) → list.map (equipment_at xs) arms ≡ list.map (equipment_at ys) arms
    each_net [] = refl
    each_net (a ∷ arms) = rw (same_nets xs ys h a, each_net arms)

-- ---- the entries that are no change

-- the weighing weighing_in, or the changes behind it weighing_in
abbrev weighing_in : Option (Readings × List Change) → Option Readings
weighing_in o = map (λ (x : Readings × List Change). x.0) o

abbrev behind : Option (Readings × List Change) → Option (List Change)
behind o = map (λ (x : Readings × List Change). x.1) o

weighing_or : (o p : Option (Readings × List Change)) → weighing_in (or_else o p) ≡ or_else (weighing_in o) (weighing_in p)
unfolding or_else
weighing_or none p = refl
weighing_or (some x) p = refl

-- an entry in front, with whatever changes behind it
weighing_front : (e : Entry) (es : List Entry) (xs : List Change) → weighing_in (last_weighing (unchanging es)) ≡ weighing_in (last_weighing es) → weighing_in (opened e xs) ≡ weighing_in (opened e (changes_of es)) → weighing_in (or_else (last_weighing (unchanging es)) (opened e xs)) ≡ weighing_in (last_weighing (e ∷ es))
unfolding last_weighing
weighing_front e es xs h k =
    rw (weighing_or (last_weighing (unchanging es)) (opened e xs), weighing_or (last_weighing es) (opened e (changes_of es)), h, k)

weighing_alone : (es : List Entry) → weighing_in (last_weighing (unchanging es)) ≡ weighing_in (last_weighing es)
unfolding last_weighing unchanging
weighing_alone [] = refl
weighing_alone (entry.Weighing w ∷ es) = weighing_front (entry.Weighing w) es (changes_of (unchanging es)) (weighing_alone es) refl
weighing_alone (entry.Sheet s ∷ es) = weighing_front (entry.Sheet s) es [] (weighing_alone es) refl
weighing_alone (entry.Change x ∷ es) = weighing_alone es ∙ ap weighing_in (sym (or_none (last_weighing es)))
weighing_alone (entry.Paired x ∷ es) = weighing_front (entry.Paired x) es (changes_of (unchanging es)) (weighing_alone es) refl
weighing_alone (entry.Seat f ∷ es) = weighing_front (entry.Seat f) es [] (weighing_alone es) refl

sheet_alone : (es : List Entry) → sheet_of (unchanging es) ≡ sheet_of es
unfolding sheet_of unchanging or_else
sheet_alone [] = refl
sheet_alone (entry.Weighing w ∷ es) = rw (sheet_alone es)
sheet_alone (entry.Sheet s ∷ es) = rw (sheet_alone es)
sheet_alone (entry.Change x ∷ es) = sheet_alone es ∙ sym (or_none (sheet_of es))
sheet_alone (entry.Paired x ∷ es) = rw (sheet_alone es)
sheet_alone (entry.Seat f ∷ es) = rw (sheet_alone es)

seat_alone : (es : List Entry) → seat_of (unchanging es) ≡ seat_of es
unfolding seat_of unchanging or_else sheet_stands
seat_alone [] = refl
seat_alone (entry.Weighing w ∷ es) = rw (seat_alone es, sheet_alone es)
seat_alone (entry.Sheet s ∷ es) = rw (seat_alone es, sheet_alone es)
seat_alone (entry.Change x ∷ es) = rw (none_either (sheet_stands es), or_none (seat_of es)) (seat_alone es)
seat_alone (entry.Paired x ∷ es) = rw (seat_alone es, sheet_alone es)
seat_alone (entry.Seat f ∷ es) = rw (seat_alone es, sheet_alone es)

-- ---- the stretches

-- all but the first
abbrev rest : List (List Change) → List (List Change)
rest [] = []
rest (xs ∷ xss) = xss

last : List (List Change) → Option (List Change)
last [] = none
last (xs ∷ xss) = or_else (last xss) (some xs)

rest_first : (x : Change) (xss : List (List Change)) → rest (in_first x xss) ≡ rest xss
rest_first x [] = refl
rest_first x (xs ∷ xss) = refl

last_rest : (xss : List (List Change)) (xs : List Change) → last (rest xss) ≡ some xs → last xss ≡ some xs
unfolding last or_else
last_rest [] xs e = e
last_rest (ys ∷ xss) xs e = rw e

some_found : {A : Type 0} (o : Option A) (x : A) → or_else o (some x) ≡ none → ⊥
unfolding or_else
some_found none x e = cc
some_found (some y) x e = cc

-- without a weighing there is one stretch, of all changes
one_stretch : (es : List Entry) → last_weighing es ≡ none → stretches es ≡ changes_of es ∷ []
unfolding last_weighing or_else stretches changes_of
one_stretch [] e = refl
one_stretch (entry.Weighing w ∷ es) e = absurd (some_found (last_weighing es) (alike w, changes_of es) e)
one_stretch (entry.Sheet s ∷ es) e = one_stretch es (sym (or_none (last_weighing es)) ∙ e)
one_stretch (entry.Change x ∷ es) e = rw (one_stretch es (sym (or_none (last_weighing es)) ∙ e))
one_stretch (entry.Paired x ∷ es) e = absurd (some_found (last_weighing es) (paired x, changes_of es) e)
one_stretch (entry.Seat f ∷ es) e = one_stretch es (sym (or_none (last_weighing es)) ∙ e)

-- behind a weighing in front
stretch_front : (x : Readings) (es : List Entry) (o : Option (Readings × List Change)) → last_weighing es ≡ o → last (rest (stretches es)) ≡ behind o → last (stretches es) ≡ behind (or_else o (some (x, changes_of es)))
unfolding last or_else
stretch_front x es none e h = rw (one_stretch es e)
stretch_front x es (some y) e h = last_rest (stretches es) y.1 h

-- the changes behind the last weighing are the last stretch, the first not counted
last_stretch : (es : List Entry) → last (rest (stretches es)) ≡ behind (last_weighing es)
unfolding last last_weighing stretches
last_stretch [] = refl
last_stretch (entry.Weighing w ∷ es) = stretch_front (alike w) es (last_weighing es) refl (last_stretch es)
last_stretch (entry.Sheet s ∷ es) = last_stretch es ∙ ap behind (sym (or_none (last_weighing es)))
last_stretch (entry.Change x ∷ es) =
    ap last (rest_first x (stretches es)) ∙ last_stretch es ∙ ap behind (sym (or_none (last_weighing es)))
last_stretch (entry.Paired x ∷ es) = stretch_front (paired x) es (last_weighing es) refl (last_stretch es)
last_stretch (entry.Seat f ∷ es) = last_stretch es ∙ ap behind (sym (or_none (last_weighing es)))

-- ---- two lists with the same changes in another order

-- lists of changes, or none, with the same changes
abbrev SameChanges : Option (List Change) → Option (List Change) → Type 0
SameChanges none none = Unit {0}
SameChanges none (some ys) = ⊥
SameChanges (some xs) none = ⊥
SameChanges (some xs) (some ys) = IsPermutation xs ys

or_permuted : (o p : Option (List Change)) (xs ys : List Change) → SameChanges o p → IsPermutation xs ys → SameChanges (or_else o (some xs)) (or_else p (some ys))
unfolding or_else
or_permuted none none xs ys h k = k
or_permuted none (some vs) xs ys h k = absurd h
or_permuted (some us) none xs ys h k = absurd h
or_permuted (some us) (some vs) xs ys h k = h

last_permuted : (xss yss : List (List Change)) → AllZip IsPermutation xss yss → SameChanges (last xss) (last yss)
unfolding last
last_permuted [] [] h = tt
last_permuted [] (ys ∷ yss) h = absurd h
last_permuted (xs ∷ xss) [] h = absurd h
last_permuted (xs ∷ xss) (ys ∷ yss) h = or_permuted (last xss) (last yss) xs ys (last_permuted xss yss h.1) h.0

rest_permuted : (xss yss : List (List Change)) → AllZip IsPermutation xss yss → AllZip IsPermutation (rest xss) (rest yss)
rest_permuted [] [] h = tt
rest_permuted [] (ys ∷ yss) h = absurd h
rest_permuted (xs ∷ xss) [] h = absurd h
rest_permuted (xs ∷ xss) (ys ∷ yss) h = h.1

balance_by : (o p : Option (Readings × List Change)) → weighing_in o ≡ weighing_in p → SameChanges (behind o) (behind p) → map (λ (x : Readings × List Change). changed_by (weighed x.0) x.1) o ≡ map (λ (x : Readings × List Change). changed_by (weighed x.0) x.1) p
balance_by none none e h = refl
balance_by none (some y) e h = absurd h
balance_by (some x) none e h = absurd h
balance_by (some x) (some y) e h =
    let same_readings = some-injective x.0 y.0 e in rw (same_readings, reordered_balance (weighed y.0) x.1 y.1 h)

changes_by : (o p : Option (Readings × List Change)) → SameChanges (behind o) (behind p) → IsPermutation (changes_behind o) (changes_behind p)
changes_by none none h = IsPermutation-refl []
changes_by none (some y) h = absurd h
changes_by (some x) none h = absurd h
changes_by (some x) (some y) h = h

module _ (es fs : List Entry) (h : SameButOrder es fs) where
  readings_alike : weighing_in (last_weighing es) ≡ weighing_in (last_weighing fs)
  readings_alike =
      sym (weighing_alone es) ∙ ap (λ (gs : List Entry). weighing_in (last_weighing gs)) h.others ∙ weighing_alone fs

  changes_alike : SameChanges (behind (last_weighing es)) (behind (last_weighing fs))
  changes_alike =
      let k = last_permuted (rest (stretches es)) (rest (stretches fs)) (rest_permuted (stretches es) (stretches fs) h.changes) in
      rw (last_stretch es, last_stretch fs) at k

  permuted_fitted : IsPermutation (fitted es) (fitted fs)
  unfolding fitted
  permuted_fitted = changes_by (last_weighing es) (last_weighing fs) changes_alike

  same_balance : balance_of es ≡ balance_of fs
  unfolding balance_of
  same_balance = balance_by (last_weighing es) (last_weighing fs) readings_alike changes_alike

  same_sheet : sheet_of es ≡ sheet_of fs
  same_sheet = sym (sheet_alone es) ∙ ap sheet_of h.others ∙ sheet_alone fs

  same_seat : seat_of es ≡ seat_of fs
  same_seat = sym (seat_alone es) ∙ ap seat_of h.others ∙ seat_alone fs

  -- hence the answers
  pub same_centre : centre_answer es ≡ centre_answer fs
  unfolding centre_answer centre_number
  same_centre = rw same_balance

  pub same_equipment : (arms weights nonlifting : List ℤ) → equipment_answer es arms weights nonlifting ≡ equipment_answer fs arms weights nonlifting
  unfolding equipment_answer equipment_number equipment_too_long
  same_equipment arms weights nonlifting = rw (same_balance, same_list (fitted es) (fitted fs) permuted_fitted)

  pub same_placard : (buffer : List ℕ) → placard_answer es buffer ≡ placard_answer fs buffer
  unfolding placard_answer placard_number
  same_placard buffer = rw (same_balance, same_sheet, same_seat)
