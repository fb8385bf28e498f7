-- The call that adds an entry: its number is the entry's, and the entry goes to the end of the list; by the kind of entry.
-- Assumes nothing.
use mathlib.Core.Path.{◌≡◌, refl}
use mathlib.Core.List.{List, [], ◌∷◌, ◌++◌}
use Rattle.paper.specs.declared.Entry.{Entry}
use Rattle.paper.specs.declared.Entry.TheVariants as entry
use Rattle.paper.specs.Refusals.{entry_number}
use Rattle.paper.specs.Journal.{call_of, call_number, accepted_call}

pub entry_number_lem : (es : List Entry) (e : Entry) → call_number es (call_of e) ≡ entry_number es e
unfolding call_number call_of entry_number
entry_number_lem es (entry.Weighing w) = refl
entry_number_lem es (entry.Sheet s) = refl
entry_number_lem es (entry.Change x) = refl
entry_number_lem es (entry.Paired x) = refl
entry_number_lem es (entry.Seat f) = refl

pub entry_added : (es : List Entry) (e : Entry) → accepted_call es (call_of e) ≡ es ++ e ∷ []
unfolding accepted_call call_of
entry_added es (entry.Weighing w) = refl
entry_added es (entry.Sheet s) = refl
entry_added es (entry.Change x) = refl
entry_added es (entry.Paired x) = refl
entry_added es (entry.Seat f) = refl
