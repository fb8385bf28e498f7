-- Entries taken in turn: what a replay of some entries comes to, by recursion on them. Assumes nothing.
use mathlib.Core.Path.{◌≡◌, refl, sym}
use mathlib.Core.Bool.{Bool, true, false, cond}
use mathlib.Core.List.{List, [], ◌∷◌, ◌++◌, append_assoc, append-nil}
use lib.Dec.{eqb}
use borrow.Author.Tests.{eqb-true}
use Rattle.laws.specs.Tests.{left, right}
use Rattle.paper.specs.declared.Entry.{Entry}
use Rattle.paper.specs.Refusals.{entry_number, accepted_after, accepted}
use Rattle.judge.specs.Standing.{kept_behind}
use Rattle.judge.proofs.Following.{kept_added}
use Rattle.judge.proofs.Accepted.{accepted-more}
use Rattle.record.specs.Held.{replayed}

pub replayed-more : (es fs : List Entry) (f : Entry) → replayed es (fs ++ f ∷ []) ≡ kept_behind (replayed es fs) f
unfolding replayed
replayed-more es [] f = refl
replayed-more es (g ∷ fs) f = replayed-more (kept_behind es g) fs f

-- accepted entries are all kept
pub replayed-accepted : (es fs : List Entry) → accepted_after es fs ≡ true → replayed es fs ≡ es ++ fs
unfolding replayed accepted_after
replayed-accepted es [] e = sym (append-nil es)
replayed-accepted es (f ∷ fs) e =
    let n = eqb-true (entry_number es f) 0 (left (eqb (entry_number es f) 0) (accepted_after (es ++ f ∷ []) fs) e) in
    rw (kept_added es f n, replayed-accepted (es ++ f ∷ []) fs (right (eqb (entry_number es f) 0) (accepted_after (es ++ f ∷ []) fs) e), append_assoc es (f ∷ []) fs)

-- and what is kept was accepted
kept_by_lem : (t : Bool) (es : List Entry) (f : Entry) → eqb (entry_number es f) 0 ≡ t → accepted es ≡ true → accepted (cond t (es ++ f ∷ []) es) ≡ true
kept_by_lem true es f e h = accepted-more es f h (eqb-true (entry_number es f) 0 e)
kept_by_lem false es f e h = h

pub kept-accepted : (es : List Entry) (f : Entry) → accepted es ≡ true → accepted (kept_behind es f) ≡ true
unfolding kept_behind
kept-accepted es f h = kept_by_lem (eqb (entry_number es f) 0) es f refl h

pub accepted-replayed : (es fs : List Entry) → accepted es ≡ true → accepted (replayed es fs) ≡ true
unfolding replayed
accepted-replayed es [] h = h
accepted-replayed es (f ∷ fs) h = accepted-replayed (kept_behind es f) fs (kept-accepted es f h)
