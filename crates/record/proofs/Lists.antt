-- Records and lists: a record of a list holds that list, and one slot is set for one entry more or less. Assumes nothing.
use mathlib.Core.Path.{◌≡◌, refl, sym, ◌∙◌, ap}
use mathlib.Core.Bool.{true}
use mathlib.Core.List.{List, [], ◌∷◌, ◌++◌, append_assoc}
use Prim.Native.Nat.{ℕ, suc, ◌+◌, ◌-◌, ◌≤◌, ◌<◌}
use native.Mathlib.Omega.{arith}
use lib.ListN.{length, set, replicate}
use lib.Seq.{set_at, take_at}
use Rattle.laws.specs.Lists.{length_more}
use Rattle.paper.specs.declared.Entry.{Entry}
use Rattle.paper.specs.Refusals.{accepted}
use Rattle.paper.specs.Journal.{without_last}
use Rattle.paper.proofs.Lists.{last_apart}
use Rattle.record.specs.declared.Record.{Record}
use Rattle.record.specs.Held.{unused_slot, record_of, slotted, held_by, put}
use Rattle.record.proofs.Turns.{replayed-accepted}

-- the unused slots behind n used ones, the first apart
unused_more : (n : ℕ) → n < 64 → replicate (64 - n) unused_slot ≡ unused_slot ∷ replicate (64 - (n + 1)) unused_slot
unused_more n h = let e : 64 - n ≡ suc (64 - (n + 1)) = omega arith in ap (λ (k : ℕ). replicate k unused_slot) e

-- one entry more
pub put_is : (es : List Entry) (e : Entry) → length es < 64 → put (record_of es) e ≡ record_of (es ++ e ∷ [])
unfolding record_of
put_is es e h =
    let n = length es in
    let slots : set (es ++ replicate (64 - n) unused_slot) n e ≡ (es ++ e ∷ []) ++ replicate (64 - length (es ++ e ∷ [])) unused_slot =
    ap (λ l. set (es ++ l) n e) (unused_more n h)
    ∙ set_at es unused_slot (replicate (64 - (n + 1)) unused_slot) e n refl
    ∙ rw (append_assoc es (e ∷ []) _, length_more es e) in
    let count = sym (length_more es e) in
    λ i. record { slots = slots i; count = count i }

-- one entry less: its slot is unused again
abbrev pub cleared : Record → Record
cleared r = record { slots = set r.slots (r.count - 1) unused_slot; count = r.count - 1 }

cleared_one : (es : List Entry) (e : Entry) → length es < 64 → cleared (record_of (es ++ e ∷ [])) ≡ record_of es
unfolding record_of
cleared_one es e h =
    let n = length es in
    let count : length (es ++ e ∷ []) - 1 ≡ n = omega (arith, length_more es e) in
    let slots : set ((es ++ e ∷ []) ++ replicate (64 - length (es ++ e ∷ [])) unused_slot) (length (es ++ e ∷ []) - 1) unused_slot ≡ es ++ replicate (64 - n) unused_slot =
    rw (count, append_assoc es (e ∷ []) (replicate (64 - length (es ++ e ∷ [])) unused_slot), length_more es e, unused_more n h)
    (set_at es e (replicate (64 - (n + 1)) unused_slot) unused_slot n refl) in
    λ i. record { slots = slots i; count = count i }

pub cleared_is : (es : List Entry) → 0 < length es → length es ≤ 64 → cleared (record_of es) ≡ record_of (without_last es)
cleared_is es h k =
    let r = last_apart es h in
    let n : length es ≡ length (without_last es) + 1 = ap length r.1 ∙ length_more (without_last es) r.0 in
    ap (λ (l : List Entry). cleared (record_of l)) r.1 ∙ cleared_one (without_last es) r.0 (omega arith)

-- a record of a list has that list in its slots, and holds it where calls give it
pub slotted_record : (es : List Entry) → slotted (record_of es) ≡ es
unfolding slotted record_of
slotted_record es =
    take_at es (replicate (64 - length es) unused_slot) (length es) refl

pub held_record : (es : List Entry) → accepted es ≡ true → held_by (record_of es) ≡ es
unfolding held_by accepted
held_record es h = rw (slotted_record es) (replayed-accepted [] es h)
