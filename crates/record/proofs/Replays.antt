-- A replay that has come to a list: what its judgement says is the list's own, and one entry more of it; with a record of the
-- list, or only by what stands. Assumes nothing.
use mathlib.Core.Path.{◌≡◌, refl, sym, ◌∙◌, ap}
use mathlib.Core.Bool.{true}
use mathlib.Core.List.{List, [], ◌∷◌, ◌++◌}
use Prim.Native.Nat.{ℕ, ◌+◌, ◌≤◌, ◌<◌}
use lib.ListN.{length, take, get_or}
use lib.Seq.{take_all}
use Rattle.std.proofs.lemmas.List.{take_more}
use Rattle.paper.specs.declared.Entry.{Entry}
use Rattle.paper.specs.Refusals.{entry_number, accepted_after, accepted}
use Rattle.judge.specs.declared.Standing.{Standing}
use Rattle.judge.specs.Standing.{Stands, stands_in, plainly, judged, kept_behind}
use Rattle.judge.proofs.Following.{kept_added, kept_same, judged_at}
use Rattle.record.specs.declared.Record.{Record}
use Rattle.record.specs.declared.Replayed.{Replayed}
use Rattle.record.specs.Held.{record_of, replayed, slotted, held_by, put, ReplayedAs}
use Rattle.judge.proofs.Accepted.{at_most_64, room_for}
use Rattle.record.proofs.Turns.{replayed-more, accepted-replayed}
use Rattle.record.proofs.Lists.{put_is}

-- ---- the slots in turn

-- the list that the first i slots hold
abbrev pub held_to : List Entry → ℕ → List Entry
held_to slots i = replayed [] (take i slots)

pub held_more : (slots : List Entry) (i : ℕ) (d : Entry) → i < length slots → held_to slots (i + 1) ≡ kept_behind (held_to slots i) (get_or slots i d)
held_more slots i d h =
    rw (take_more slots i d h, replayed-more [] (take i slots) (get_or slots i d))

-- behind the last of those in use they are the list that the record holds
pub held_all : (r : Record) (i : ℕ) → length (slotted r) ≤ i → held_to (slotted r) i ≡ held_by r
unfolding held_by
held_all r i h = rw (take_all i (slotted r) h)

-- what is held was accepted, so there is little of it
pub accepted_to : (slots : List Entry) (i : ℕ) → accepted (held_to slots i) ≡ true
unfolding accepted accepted_after
accepted_to slots i = accepted-replayed [] (take i slots) refl

pub held_accepted : (r : Record) → accepted (held_by r) ≡ true
unfolding held_by slotted
held_accepted r = accepted_to r.slots r.count

pub held_most : (r : Record) → length (held_by r) ≤ 64
held_most r = at_most_64 (held_by r) (held_accepted r)

-- ---- with a record of the list

pub one_more : (slots : List Entry) (i : ℕ) (d : Entry) (s : Replayed) → i < length slots → ReplayedAs (kept_behind (held_to slots i) (get_or slots i d)) s → ReplayedAs (held_to slots (i + 1)) s
one_more slots i d s h p = rw (held_more slots i d h) p

module _ (es : List Entry) (r : Replayed) (at : ReplayedAs es r) where
  pub count_is : r.log.count ≡ length es
  unfolding record_of
  count_is = ap (λ (l : Record). l.count) at.log

  -- an entry that was judged there, by its number
  module _ (e : Entry) (p : Stands) (n : ℕ) (j : ◌≡◌ {A = ℕ × Stands} (n, p) (judged (plainly r.standing) e)) where
    told : (n ≡ entry_number es e) × (p ≡ stands_in (kept_behind es e))
    told = judged_at es (plainly r.standing) p e n at.stands j

    pub number_is : n ≡ entry_number es e
    number_is = told.0

    pub room : n ≡ 0 → r.log.count < 64
    room z = rw count_is (room_for es e (sym number_is ∙ z))

    pub log_more : n ≡ 0 → put r.log e ≡ record_of (es ++ e ∷ [])
    log_more z = ap (λ (l : Record). put l e) at.log ∙ put_is es e (room_for es e (sym number_is ∙ z))

    pub gone_on : (t : Standing) → plainly t ≡ p → n ≡ 0 → ReplayedAs (kept_behind es e) (record { log = put r.log e; standing = t })
    gone_on t k z = record { log = log_more z ∙ ap record_of (sym (kept_added es e (sym number_is ∙ z))); stands = k ∙ told.1 }

    pub passed_over : (t : Standing) → plainly t ≡ p → 0 < n → ReplayedAs (kept_behind es e) (record { log = r.log; standing = t })
    passed_over t k h = record { log = at.log ∙ ap record_of (sym (kept_same es e (rw number_is at h))); stands = k ∙ told.1 }
