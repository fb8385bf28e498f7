-- The list of entries that a record holds, the record of a list, and what a call answers by them.
use Rattle.std.specs.Prelude.{◌≡◌, cond, List, [], ◌∷◌, ◌++◌, ℕ, ◌+◌, ◌-◌, eqb, pos, length, take, set, replicate, Result, Ok, Err}
use Rattle.paper.specs.declared.Entry.{Entry}
use Rattle.paper.specs.declared.Entry.TheVariants as entry
use Rattle.paper.specs.declared.Refusal.{Refusal}
use Rattle.paper.specs.Numbers.{refusal_of}
use Rattle.paper.specs.Refusals.{capacity}
use Rattle.paper.specs.Journal.{Call, call_number, accepted_call}
use Rattle.judge.specs.Standing.{stands_in, plainly, kept_behind}
use Rattle.record.specs.declared.Record.{Record}
use Rattle.record.specs.declared.Replayed.{Replayed}

-- ---- slots

-- what an unused slot holds: a change of nothing, which no call accepts
abbrev pub unused_slot : Entry
unused_slot = entry.Change (record { c = pos 0; arm = pos 0; flag = 0 })

-- ---- records and lists

-- the record of a list of at most 64 entries: they in the first slots, the others unused
unfoldable pub record_of : List Entry → Record
record_of es = record { slots = es ++ replicate (capacity - length es) unused_slot; count = length es }

-- entries taken in turn behind a list, each where its call accepts it
unfoldable pub replayed : List Entry → List Entry → List Entry
replayed es [] = es
replayed es (f ∷ fs) = replayed (kept_behind es f) fs

-- the entries in the used slots of a record
unfoldable pub slotted : Record → List Entry
slotted r = take r.count r.slots

-- the list that a record holds: its entries in turn. In a record that calls gave each is accepted, and none is left out
unfoldable pub held_by : Record → List Entry
held_by r = replayed [] (slotted r)

-- ---- what a call answers

-- nothing but its number, and the record of the list afterwards; or the record as it was where it is refused
unfoldable pub kept_or : ℕ → Record → List Entry → Result (Unit {0}) Refusal × Record
kept_or n r es = cond (eqb n 0) (Ok tt, record_of es) (Err (refusal_of n), r)

unfoldable pub answered : Record → Call → Result (Unit {0}) Refusal × Record
answered r x = kept_or (call_number (held_by r) x) r (accepted_call (held_by r) x)

-- ---- on the way

-- one entry more
abbrev pub put : Record → Entry → Record
put r e = record { slots = set r.slots r.count e; count = r.count + 1 }

-- a replay has come to a list
pub record ReplayedAs (es : List Entry) (r : Replayed) : Type 0 where
  pub log : r.log ≡ record_of es
  pub stands : plainly r.standing ≡ stands_in es
