-- A list with one entry more: what stands in it and the number that the entry gets, by recursion on the list. Assumes nothing.
use mathlib.Core.Path.{◌≡◌, refl, ◌∙◌, ap}
use mathlib.Core.Bool.{Bool, true, false, cond, not}
use mathlib.Core.List.{List, [], ◌∷◌, ◌++◌}
use mathlib.Core.Option.{Option, none, some, map, or_else}
use Prim.Native.Nat.{ℕ, ◌<◌}
use native.Mathlib.Omega.{arith}
use lib.Dec.{eqb}
use borrow.Author.Tests.{eq-eqb, ne_eqb}
use Rattle.laws.specs.Lists.{length_more}
use Rattle.paper.specs.declared.Sheet.{Sheet}
use Rattle.paper.specs.declared.Change.{Change}
use Rattle.paper.specs.declared.Entry.{Entry}
use Rattle.paper.specs.declared.Entry.TheVariants as entry
use Rattle.paper.specs.Record.{Balance, Readings, alike, paired, weighed, changed, changed_by, changes_of, opened, last_weighing, balance_of, is_none, sheet_of, seat_of, sheet_stands}
use Rattle.paper.specs.Refusals.{full, weighing_number, sheet_number, change_number, seat_number, entry_number}
use Rattle.seat.specs.InForce.{with_ends, in_force}
use Rattle.seat.proofs.Lists.{force_more}
use Rattle.judge.specs.Standing.{Stands, stands_in, number_at, balance_after, after, judged, kept_behind}

-- a weighing, plain or paired, is the last
pub last-opened : (es : List Entry) (e : Entry) (x : Readings) → opened e [] ≡ some (x, []) → last_weighing (es ++ e ∷ []) ≡ some (x, [])
unfolding last_weighing or_else changes_of
last-opened [] e x h = h
last-opened (f ∷ es) e x h = ap (λ o. or_else o (opened f (changes_of (es ++ e ∷ [])))) (last-opened es e x h)

-- an entry that neither weighs nor changes cuts nothing off
changes_other : (es : List Entry) (e : Entry) → changes_of (e ∷ []) ≡ [] → changes_of (es ++ e ∷ []) ≡ changes_of es
unfolding changes_of
changes_other [] e h = h
changes_other (entry.Weighing w ∷ es) e h = changes_other es e h
changes_other (entry.Sheet t ∷ es) e h = changes_other es e h
changes_other (entry.Change x ∷ es) e h = ap (λ xs. x ∷ xs) (changes_other es e h)
changes_other (entry.Paired x ∷ es) e h = changes_other es e h
changes_other (entry.Seat f ∷ es) e h = changes_other es e h

pub last_other : (es : List Entry) (e : Entry) → changes_of (e ∷ []) ≡ [] → opened e [] ≡ none → last_weighing (es ++ e ∷ []) ≡ last_weighing es
unfolding last_weighing or_else changes_of
last_other [] e h k = k
last_other (f ∷ es) e h k = rw (last_other es e h k, changes_other es e h)

-- a change goes behind the others
changes_change : (es : List Entry) (x : Change) → changes_of (es ++ entry.Change x ∷ []) ≡ changes_of es ++ x ∷ []
unfolding changes_of
changes_change [] x = refl
changes_change (entry.Weighing w ∷ es) x = changes_change es x
changes_change (entry.Sheet s ∷ es) x = changes_change es x
changes_change (entry.Change y ∷ es) x = ap (λ xs. y ∷ xs) (changes_change es x)
changes_change (entry.Paired y ∷ es) x = changes_change es x
changes_change (entry.Seat f ∷ es) x = changes_change es x

abbrev more : Change → Readings × List Change → Readings × List Change
more x p = (p.0, p.1 ++ x ∷ [])

opened-more : (f : Entry) (xs : List Change) (x : Change) → opened f (xs ++ x ∷ []) ≡ map (more x) (opened f xs)
opened-more (entry.Weighing w) xs x = refl
opened-more (entry.Sheet s) xs x = refl
opened-more (entry.Change y) xs x = refl
opened-more (entry.Paired y) xs x = refl
opened-more (entry.Seat f) xs x = refl

first_of : (o : Option (Readings × List Change)) (f : Entry) (xs : List Change) (x : Change) → or_else (map (more x) o) (opened f (xs ++ x ∷ [])) ≡ map (more x) (or_else o (opened f xs))
unfolding or_else
first_of none f xs x = opened-more f xs x
first_of (some p) f xs x = refl

pub last_change : (es : List Entry) (x : Change) → last_weighing (es ++ entry.Change x ∷ []) ≡ map (more x) (last_weighing es)
unfolding last_weighing or_else changes_of
last_change [] x = refl
last_change (f ∷ es) x = rw (last_change es x, changes_change es x) (first_of (last_weighing es) f (changes_of es) x)

changed-more : (b : Balance) (xs : List Change) (x : Change) → changed_by b (xs ++ x ∷ []) ≡ changed (changed_by b xs) x
unfolding changed_by
changed-more b [] x = refl
changed-more b (y ∷ xs) x = changed-more (changed b y) xs x

-- the balance of what is known of the last weighing
abbrev said : Readings × List Change → Balance
said p = changed_by (weighed p.0) p.1

said_more : (o : Option (Readings × List Change)) (x : Change) → map said (map (more x) o) ≡ map (λ (b : Balance). changed b x) (map said o)
said_more none x = refl
said_more (some p) x = ap {B = Option Balance} some (changed-more (weighed p.0) p.1 x)

balance_more : (es : List Entry) (e : Entry) → balance_of (es ++ e ∷ []) ≡ balance_after (balance_of es) e
unfolding balance_of changed_by changes_of
balance_more es (entry.Weighing w) = ap (map said) (last-opened es (entry.Weighing w) (alike w) refl)
balance_more es (entry.Sheet s) = ap (map said) (last_other es (entry.Sheet s) refl refl)
balance_more es (entry.Change x) = ap (map said) (last_change es x) ∙ said_more (last_weighing es) x
balance_more es (entry.Paired x) = ap (map said) (last-opened es (entry.Paired x) (paired x) refl)
balance_more es (entry.Seat f) = ap (map said) (last_other es (entry.Seat f) refl refl)

-- what stands in a list with one entry more
pub stands-more : (es : List Entry) (e : Entry) → stands_in (es ++ e ∷ []) ≡ after (stands_in es) e
unfolding stands_in
stands-more es e = rw (length_more es e, balance_more es e, force_more es e)

-- a sheet stands where one is in force
sheet_in_force : (es : List Entry) → sheet_stands es ≡ not (is_none (in_force es))
unfolding sheet_stands in_force is_none
sheet_in_force es = by (sheet_of es)
  where
    by : (o : Option Sheet) → not (is_none o) ≡ not (is_none (map (with_ends (seat_of es)) o))
    by none = refl
    by (some s) = refl

-- the number that an entry gets on a list goes by what stands in it
pub number_at_lem : (es : List Entry) (e : Entry) → entry_number es e ≡ number_at (stands_in es) e
unfolding entry_number number_at stands_in weighing_number sheet_number change_number seat_number full
number_at_lem es (entry.Weighing w) = refl
number_at_lem es (entry.Sheet s) = refl
number_at_lem es (entry.Change x) = refl
number_at_lem es (entry.Paired x) = refl
number_at_lem es (entry.Seat f) = rw (sheet_in_force es)

-- an entry that gets no number there is kept behind the list, and one that gets a number is not
pub kept_added : (es : List Entry) (e : Entry) → entry_number es e ≡ 0 → kept_behind es e ≡ es ++ e ∷ []
unfolding kept_behind
kept_added es e n = rw (eq-eqb (entry_number es e) 0 n)

pub kept_same : (es : List Entry) (e : Entry) → 0 < entry_number es e → kept_behind es e ≡ es
unfolding kept_behind
kept_same es e n = rw (ne_eqb (entry_number es e) 0 (λ z. omega arith))

-- a judgement by what stands in a list: the entry's number on it, and what stands where it is kept behind it
pub judged_in : (es : List Entry) (e : Entry) → judged (stands_in es) e ≡ (entry_number es e, stands_in (kept_behind es e))
unfolding judged kept_behind
judged_in es e = rw (← number_at_lem es e, ← stands-more es e) (λ i. (entry_number es e, by (eqb (entry_number es e) 0) i))
  where
    by : (b : Bool) → cond b (stands_in (es ++ e ∷ [])) (stands_in es) ≡ stands_in (cond b (es ++ e ∷ []) es)
    by true = refl
    by false = refl

-- a judgement that was made where a list stands
pub judged_at : (es : List Entry) (o p : Stands) (e : Entry) (n : ℕ) → o ≡ stands_in es → ◌≡◌ {A = ℕ × Stands} (n, p) (judged o e) → (n ≡ entry_number es e) × (p ≡ stands_in (kept_behind es e))
judged_at es o p e n h j =
    let told = j ∙ ap (λ (q : Stands). judged q e) h ∙ judged_in es e in
    (ap (λ (x : ℕ × Stands). x.0) told, ap (λ (x : ℕ × Stands). x.1) told)
