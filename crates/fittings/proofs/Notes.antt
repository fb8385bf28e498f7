-- One entry more behind some: which changes are behind the last weighing then, and what is known of them. By what the entry makes
-- of the last weighing. Assumes nothing.
use mathlib.Core.Path.{◌≡◌, refl, sym, ap, ◌∙◌}
use mathlib.Core.Bool.{true, false}
use mathlib.Core.List.{List, [], ◌∷◌, ◌++◌}
use mathlib.Core.Option.{Option, none, some, map}
use native.Mathlib.Omega.{arith}
use Rattle.paper.specs.declared.Change.{Change}
use Rattle.paper.specs.declared.Entry.{Entry}
use Rattle.paper.specs.declared.Entry.TheVariants as entry
use Rattle.paper.specs.Record.{Readings, last_weighing, balance_of, opened, changes_of, is_none}
use Rattle.paper.specs.Equipment.{changes_behind, fitted, arms_to, arms_of, equipment_of}
use Rattle.paper.specs.Refusals.{full, change_number, entry_number, accepted}
use Rattle.paper.proofs.Numbers.{no_other}
use Rattle.paper.proofs.Changes.{accepted_change}
use Rattle.stations.proofs.Fitted.{fewer_fitted, fitted_in_range}
use Rattle.judge.proofs.Accepted.{room_for, accepted_last, accepted_before}
use Rattle.judge.proofs.Following.{last-opened, last_other, last_change}
use Rattle.fittings.specs.declared.Fittings.{Fittings}
use Rattle.fittings.specs.Fittings.{fitted_in, Admissible, Tells}

-- behind a weighing there is none
fitted_weighing : (es : List Entry) (e : Entry) (x : Readings) → opened e [] ≡ some (x, []) → fitted (es ++ e ∷ []) ≡ []
unfolding fitted
fitted_weighing es e x h = rw (last-opened es e x h)

-- an entry that neither weighs nor changes fits nothing
fitted_other : (es : List Entry) (e : Entry) → changes_of (e ∷ []) ≡ [] → opened e [] ≡ none → fitted (es ++ e ∷ []) ≡ fitted es
unfolding fitted
fitted_other es e h k = rw (last_other es e h k)

-- a change behind a weighing is one more
one_more : (o : Option (Readings × List Change)) (x : Change) → is_none o ≡ false → changes_behind (map (λ (p : Readings × List Change). (p.0, p.1 ++ x ∷ [])) o) ≡ changes_behind o ++ x ∷ []
unfolding is_none
one_more none x h = cc
one_more (some p) x h = refl

none_made : {A B : Type 0} (f : A → B) (o : Option A) → is_none (map f o) ≡ is_none o
unfolding is_none
none_made f none = refl
none_made f (some x) = refl

fitted_change : (es : List Entry) (x : Change) → is_none (balance_of es) ≡ false → fitted (es ++ entry.Change x ∷ []) ≡ fitted es ++ x ∷ []
unfolding fitted balance_of
fitted_change es x h = rw (last_change es x) (one_more (last_weighing es) x (sym (none_made _ (last_weighing es)) ∙ h))

-- a change that is accepted has a weighing before it
weighed_before : (es : List Entry) (x : Change) → entry_number es (entry.Change x) ≡ 0 → is_none (balance_of es) ≡ false
unfolding entry_number change_number
weighed_before es x h = (accepted_change (balance_of es) x (no_other 9 (full es) _ (omega arith) h)).0

-- ---- what is known then

none_fitted : equipment_of [] ≡ []
unfolding equipment_of arms_of arms_to
none_fitted = refl

pub tells_none : (t : Fittings) → fitted_in t ≡ [] → Tells [] t
unfolding fitted last_weighing
tells_none t e = e ∙ sym none_fitted

pub none_weighed : (es : List Entry) (e : Entry) (x : Readings) → opened e [] ≡ some (x, []) → [] ≡ equipment_of (fitted (es ++ e ∷ []))
none_weighed es e x h = sym none_fitted ∙ ap equipment_of (sym (fitted_weighing es e x h))

pub tells_other : (es : List Entry) (e : Entry) (t : Fittings) → changes_of (e ∷ []) ≡ [] → opened e [] ≡ none → Tells es t → Tells (es ++ e ∷ []) t
tells_other es e t h k s = s ∙ ap equipment_of (sym (fitted_other es e h k))

-- before an entry that is accepted there is room for it
pub admissible : (es : List Entry) (e : Entry) → accepted (es ++ e ∷ []) ≡ true → Admissible (fitted es)
admissible es e h =
    record { few = omega (arith, fewer_fitted es, room_for es e (accepted_last es e h)); fine = fitted_in_range es (accepted_before es (e ∷ []) h) }

pub tells_change : (es : List Entry) (x : Change) (t : Fittings) → accepted (es ++ entry.Change x ∷ []) ≡ true
    → fitted_in t ≡ equipment_of (fitted es ++ x ∷ []) → Tells (es ++ entry.Change x ∷ []) t
tells_change es x t h e = e ∙ ap equipment_of (sym (fitted_change es x (weighed_before es x (accepted_last es (entry.Change x) h))))
