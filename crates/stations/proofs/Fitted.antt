-- The changes behind the last weighing of a list: there are fewer of them than entries, and of an accepted list each keeps to its
-- ranges. By induction on the list. Assumes nothing.
use Rattle.std.specs.Prelude.{◌≡◌, true, List, [], ◌∷◌, ◌++◌, suc, ◌-◌, ◌≤◌, eqb, length}
use Rattle.std.proofs.Common.{arith}
use borrow.Author.Tests.{eqb-true}
use Rattle.std.proofs.Math.Option.{Option, none, some, or_else}
use Rattle.laws.specs.Tests.{left, right}
use Rattle.laws.specs.Lists.{Each}
use Rattle.paper.specs.declared.Change.{Change}
use Rattle.paper.specs.declared.Entry.{Entry}
use Rattle.paper.specs.declared.Entry.TheVariants as entry
use Rattle.paper.specs.Record.{Readings, changes_of, opened, last_weighing, balance_of}
use Rattle.paper.specs.Equipment.{changes_behind, fitted}
use Rattle.paper.specs.Refusals.{is_change, full, change_number, entry_number, accepted_after, accepted}
use Rattle.paper.proofs.Numbers.{no_other}
use Rattle.paper.proofs.Changes.{accepted_change}

-- ---- how many there are

few_changes : (es : List Entry) → length (changes_of es) ≤ length es
unfolding changes_of
few_changes [] = omega arith
few_changes (entry.Weighing w ∷ es) = omega (arith, few_changes es)
few_changes (entry.Sheet s ∷ es) = omega (arith, few_changes es)
few_changes (entry.Change x ∷ es) = omega (arith, few_changes es)
few_changes (entry.Paired x ∷ es) = omega (arith, few_changes es)
few_changes (entry.Seat f ∷ es) = omega (arith, few_changes es)

-- the first entry is a weighing or none
no_more_opened : (e : Entry) (xs : List Change) → length (changes_behind (opened e xs)) ≤ length xs
no_more_opened (entry.Weighing w) xs = omega arith
no_more_opened (entry.Sheet s) xs = omega arith
no_more_opened (entry.Change x) xs = omega arith
no_more_opened (entry.Paired x) xs = omega arith
no_more_opened (entry.Seat f) xs = omega arith

pub fewer_fitted : (es : List Entry) → length (fitted es) ≤ length es - 1
unfolding fitted last_weighing or_else
fewer_fitted [] = omega arith
fewer_fitted (e ∷ es) = by (last_weighing es) (fewer_fitted es)
  where
    by : (o : Option (Readings × List Change)) → length (changes_behind o) ≤ length es - 1 → length (changes_behind (or_else o (opened e (changes_of es)))) ≤ suc (length es) - 1
    by none h = omega (arith, few_changes es, no_more_opened e (changes_of es))
    by (some x) h = omega arith

-- ---- their ranges

abbrev pub InRange : List Change → Type 0
InRange = Each (λ (x : Change). is_change x ≡ true)

first_accepted : (es : List Entry) (f : Entry) (fs : List Entry) → accepted_after es (f ∷ fs) ≡ true → entry_number es f ≡ 0
unfolding accepted_after
first_accepted es f fs h = eqb-true (entry_number es f) 0 (left (eqb (entry_number es f) 0) (accepted_after (es ++ f ∷ []) fs) h)

others_accepted : (es : List Entry) (f : Entry) (fs : List Entry) → accepted_after es (f ∷ fs) ≡ true → accepted_after (es ++ f ∷ []) fs ≡ true
unfolding accepted_after
others_accepted es f fs h = right (eqb (entry_number es f) 0) (accepted_after (es ++ f ∷ []) fs) h

-- a change that gets no number behind some entries
pub change_in_range : (es : List Entry) (x : Change) → entry_number es (entry.Change x) ≡ 0 → is_change x ≡ true
unfolding entry_number change_number
change_in_range es x h = (accepted_change (balance_of es) x (no_other 9 (full es) _ (omega arith) h)).1

changes_in_range : (es fs : List Entry) → accepted_after es fs ≡ true → InRange (changes_of fs)
unfolding changes_of
changes_in_range es [] h = tt
changes_in_range es (entry.Weighing w ∷ fs) h = changes_in_range (es ++ entry.Weighing w ∷ []) fs (others_accepted es (entry.Weighing w) fs h)
changes_in_range es (entry.Sheet s ∷ fs) h = changes_in_range (es ++ entry.Sheet s ∷ []) fs (others_accepted es (entry.Sheet s) fs h)
changes_in_range es (entry.Change x ∷ fs) h =
    (change_in_range es x (first_accepted es (entry.Change x) fs h), changes_in_range (es ++ entry.Change x ∷ []) fs (others_accepted es (entry.Change x) fs h))
changes_in_range es (entry.Paired x ∷ fs) h = changes_in_range (es ++ entry.Paired x ∷ []) fs (others_accepted es (entry.Paired x) fs h)
changes_in_range es (entry.Seat f ∷ fs) h = changes_in_range (es ++ entry.Seat f ∷ []) fs (others_accepted es (entry.Seat f) fs h)

opened_in_range : (e : Entry) (xs : List Change) → InRange xs → InRange (changes_behind (opened e xs))
opened_in_range (entry.Weighing w) xs h = h
opened_in_range (entry.Sheet s) xs h = tt
opened_in_range (entry.Change x) xs h = tt
opened_in_range (entry.Paired x) xs h = h
opened_in_range (entry.Seat f) xs h = tt

behind_in_range : (es fs : List Entry) → accepted_after es fs ≡ true → InRange (changes_behind (last_weighing fs))
unfolding last_weighing or_else
behind_in_range es [] h = tt
behind_in_range es (f ∷ fs) h =
    let k = others_accepted es f fs h in
    by (last_weighing fs) (behind_in_range (es ++ f ∷ []) fs k) (changes_in_range (es ++ f ∷ []) fs k)
  where
    by : (o : Option (Readings × List Change)) → InRange (changes_behind o) → InRange (changes_of fs) → InRange (changes_behind (or_else o (opened f (changes_of fs))))
    by none k m = opened_in_range f (changes_of fs) m
    by (some x) k m = k

pub fitted_in_range : (es : List Entry) → accepted es ≡ true → InRange (fitted es)
unfolding fitted accepted
fitted_in_range es h = behind_in_range [] es h
