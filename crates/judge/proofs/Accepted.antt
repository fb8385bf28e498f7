-- Lists that calls give: their entries in turn get no number, one more and those before it, by recursion. Assumes nothing.
use mathlib.Core.Path.{◌≡◌, sym, ◌∙◌, ap}
use mathlib.Core.Bool.{Bool, true, ◌&&◌, and_assoc}
use mathlib.Core.List.{List, [], ◌∷◌, ◌++◌, append_assoc, append-nil}
use Prim.Native.Nat.{◌+◌, ◌≤◌, ◌<◌}
use native.Mathlib.Omega.{arith}
use lib.Dec.{eqb}
use lib.ListN.{length}
use borrow.Author.Tests.{eq-eqb, eqb-true}
use Rattle.laws.specs.Tests.{left, right}
use Rattle.laws.specs.Lists.{length_more}
use Rattle.paper.specs.declared.Entry.{Entry}
use Rattle.paper.specs.Refusals.{entry_number, accepted_after, accepted}
use Rattle.judge.specs.Standing.{stands_in}
use Rattle.judge.proofs.Following.{number_at_lem}
use Rattle.judge.proofs.Judging.{room_of}

-- an entry that gets no number finds room
pub room_for : (es : List Entry) (e : Entry) → entry_number es e ≡ 0 → length es < 64
unfolding stands_in
room_for es e n = room_of (stands_in es) e (sym (number_at_lem es e) ∙ n)

pub accepted-append : (es fs gs : List Entry) → accepted_after es (fs ++ gs) ≡ (accepted_after es fs && accepted_after (es ++ fs) gs)
unfolding accepted_after
accepted-append es [] gs = rw (append-nil es)
accepted-append es (f ∷ fs) gs =
    let a = eqb (entry_number es f) 0 in
    let more = rw (append_assoc es (f ∷ []) fs) at (accepted-append (es ++ f ∷ []) fs gs) in
    ap (λ (b : Bool). a && b) more ∙ sym (and_assoc a (accepted_after (es ++ f ∷ []) fs) (accepted_after (es ++ f ∷ fs) gs))

-- such a list has at most 64 entries
pub accepted-room : (es fs : List Entry) → length es ≤ 64 → accepted_after es fs ≡ true → length es + length fs ≤ 64
unfolding accepted_after
accepted-room es [] h e = omega arith
accepted-room es (f ∷ fs) h e =
    let n = eqb-true (entry_number es f) 0 (left (eqb (entry_number es f) 0) (accepted_after (es ++ f ∷ []) fs) e) in
    let k = room_for es f n in
    let r = accepted-room (es ++ f ∷ []) fs (omega (arith, length_more es f)) (right (eqb (entry_number es f) 0) (accepted_after (es ++ f ∷ []) fs) e) in
    omega (arith, length_more es f)

pub at_most_64 : (es : List Entry) → accepted es ≡ true → length es ≤ 64
unfolding accepted
at_most_64 es e = omega (arith, accepted-room [] es (omega arith) e)

pub accepted-more : (es : List Entry) (e : Entry) → accepted es ≡ true → entry_number es e ≡ 0 → accepted (es ++ e ∷ []) ≡ true
unfolding accepted accepted_after
accepted-more es e h n =
    rw (accepted-append [] es (e ∷ []), h, eq-eqb (entry_number es e) 0 n)

pub accepted_before : (es fs : List Entry) → accepted (es ++ fs) ≡ true → accepted es ≡ true
unfolding accepted
accepted_before es fs h = left (accepted_after [] es) (accepted_after ([] ++ es) fs) (sym (accepted-append [] es fs) ∙ h)

-- its last entry got no number
pub accepted_last : (es : List Entry) (e : Entry) → accepted (es ++ e ∷ []) ≡ true → entry_number es e ≡ 0
unfolding accepted accepted_after
accepted_last es e h =
    let k = right (accepted_after [] es) (accepted_after es (e ∷ [])) (sym (accepted-append [] es (e ∷ [])) ∙ h) in
    eqb-true (entry_number es e) 0 (left (eqb (entry_number es e) 0) true k)
