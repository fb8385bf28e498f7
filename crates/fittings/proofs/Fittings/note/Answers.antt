-- `Fittings::note` meets its contract, by the entry's kind. Assumes nothing.
use Rattle.std.proofs.Common.{◌≡◌, refl, sym, true, ◌∷◌, ◌++◌, [], inl, inr}
use Rattle.paper.specs.declared.Entry.TheVariants as entry
use Rattle.paper.specs.Record.{alike, paired, changes_of}
use Rattle.paper.specs.Refusals.{accepted}
use Rattle.paper.specs.Equipment.{fitted}
use Rattle.stations.proofs.Fitted.{change_in_range}
use Rattle.judge.proofs.Accepted.{accepted_last}
use Rattle.fittings.proofs.Notes.{admissible, none_weighed, tells_change, tells_other}
use Rattle.fittings.proofs.Fittings.note.Goals as goal

-- the change that comes next is accepted
coming : (c : goal.After-add-arg-1) → accepted (c.requires.0 ++ entry.Change c.in-Change.x ∷ []) ≡ true
coming c = rw (sym c.in-Change.is) c.requires.2

pub add-requires-clause-known : goal.add-requires-clause-known
add-requires-clause-known c =
    (fitted c.requires.0, c.requires.1, admissible c.requires.0 (entry.Change c.in-Change.x) (coming c))

pub add-requires-clause-fine : goal.add-requires-clause-fine
add-requires-clause-fine c =
    change_in_range c.requires.0 c.in-Change.x (accepted_last c.requires.0 (entry.Change c.in-Change.x) (coming c))

pub returns-in-Weighing : goal.returns-in-Weighing
returns-in-Weighing c es s h = elim c.in-Weighing.is [
  | inl (w, e) ↦ rw e (none_weighed es (entry.Weighing w) (alike w) refl)
  | inr (x, e) ↦ rw e (none_weighed es (entry.Paired x) (paired x) refl)
]

pub returns-in-Change : goal.returns-in-Change
returns-in-Change c es s h =
    let h' : accepted (es ++ entry.Change c.in-Change.x ∷ []) ≡ true = rw (sym c.in-Change.is) h in
    rw c.in-Change.is (tells_change es c.in-Change.x c.add.new.self h' (c.add.ensures (fitted es) s))

pub returns-in-Sheet : goal.returns-in-Sheet
unfolding changes_of
returns-in-Sheet c es s h = elim c.in-Sheet.is [
  | inl (x, e) ↦ rw e (tells_other es (entry.Sheet x) c.args.self.now refl refl s)
  | inr (f, e) ↦ rw e (tells_other es (entry.Seat f) c.args.self.now refl refl s)
]
