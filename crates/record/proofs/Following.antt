-- What each call does to the list that a record holds, and that a record which calls gave is the record of its list: by the
-- number that the call gets. Assumes nothing.
use mathlib.Core.Path.{◌≡◌, refl, sym, ◌∙◌, ap}
use mathlib.Core.Bool.{Bool, true, false, cond}
use mathlib.Core.List.{List, [], ◌∷◌}
use mathlib.Core.Option.{Option, none, some}
use Prim.Native.Nat.{ℕ}
use native.Mathlib.Decide.{dec_lt}
use native.Mathlib.Omega.{arith}
use lib.Dec.{eqb}
use lib.ListN.{length}
use borrow.Author.Tests.{eqb-true}
use Rattle.std.specs.Prelude.{Result, Ok, Err}
use Rattle.paper.specs.declared.Refusal.{Refusal}
use Rattle.paper.specs.declared.Entry.{Entry}
use Rattle.paper.specs.declared.Entry.TheVariants as entry
use Rattle.paper.specs.Numbers.{refusal_of, number_in}
use Rattle.paper.proofs.Numbers.{call_told}
use Rattle.paper.proofs.Feeding.{accepted_pair}
use Rattle.paper.specs.Indicator.{paired_of}
use Rattle.paper.specs.Refusals.{entry_number, accepted_after, accepted, only_accepted, file_of}
use Rattle.paper.specs.File.{laid_out}
use Rattle.paper.proofs.Lists.{last_apart}
use Rattle.paper.specs.Journal.{Call, weigh, pair, indicate, install, change, seat, undo, read, call_number, accepted_call, after_by, after_call, without_last, entries_or}
use Rattle.record.specs.declared.Record.{Record}
use Rattle.record.specs.Held.{record_of, held_by, kept_or, answered}
use Rattle.record.proofs.Calls.{Answer}
use Rattle.judge.proofs.Accepted.{accepted-more, accepted_before}
use Rattle.record.proofs.Lists.{held_record}
use Rattle.record.proofs.Replays.{held_accepted}

-- ---- an accepted call leaves a list that calls give

none_left : (es : List Entry) → length es ≡ 0 → accepted (without_last es) ≡ true
unfolding without_last accepted accepted_after
none_left [] e = refl
none_left (f ∷ fs) e = absurd (omega arith)

without_accepted : (es : List Entry) → accepted es ≡ true → accepted (without_last es) ≡ true
without_accepted es h =
    elim (dec_lt 0 (length es)) as (λ d. accepted (without_last es) ≡ true) [
      | yes k ↦ let r = last_apart es k in accepted_before (without_last es) (r.0 ∷ []) (sym (ap accepted r.1) ∙ h)
      | no k ↦ none_left es (omega arith)
    ]

chosen : (t : Bool) (es fs : List Entry) → accepted es ≡ t → accepted fs ≡ true → accepted (entries_or fs (cond t (some es) none)) ≡ true
chosen true es fs e h = e
chosen false es fs e h = h

only_accepted_lem : (o : Option (List Entry)) (fs : List Entry) → accepted fs ≡ true → accepted (entries_or fs (only_accepted o)) ≡ true
only_accepted_lem none fs h = h
only_accepted_lem (some es) fs h = chosen (accepted es) es fs refl h

pub call_accepted : (es : List Entry) (x : Call) → accepted es ≡ true → call_number es x ≡ 0 → accepted (accepted_call es x) ≡ true
unfolding call_number accepted_call entry_number file_of
call_accepted es (weigh w) h n = accepted-more es (entry.Weighing w) h n
call_accepted es (pair x) h n = accepted-more es (entry.Paired x) h n
call_accepted es (indicate x) h n = accepted-more es (entry.Paired (paired_of x)) h (accepted_pair es x n)
call_accepted es (install s) h n = accepted-more es (entry.Sheet s) h n
call_accepted es (change x) h n = accepted-more es (entry.Change x) h n
call_accepted es (seat f) h n = accepted-more es (entry.Seat f) h n
call_accepted es undo h n = without_accepted es h
call_accepted es (read xs) h n = only_accepted_lem (laid_out xs) es h

-- ---- the list and the number

-- by whether the number is 0
list_by : (t : Bool) (n : ℕ) (r : Record) (es : List Entry) → eqb n 0 ≡ t → (n ≡ 0 → accepted es ≡ true) → held_by (cond {A = Answer} t (Ok tt, record_of es) (Err (refusal_of n), r)).1 ≡ cond t es (held_by r)
list_by true n r es e h = held_record es (h (eqb-true n 0 e))
list_by false n r es e h = refl

-- the record that a call leaves holds the list after the call
pub answered_list : (r : Record) (x : Call) → held_by (answered r x).1 ≡ after_call (held_by r) x
unfolding answered kept_or after_by
answered_list r x =
    let es = held_by r in
    list_by (eqb (call_number es x) 0) (call_number es x) r (accepted_call es x) refl (λ n. call_accepted es x (held_accepted r) n)

number_by : (t : Bool) (n : ℕ) (r s : Record) → number_in (cond {A = Answer} t (Ok tt, s) (Err (refusal_of n), r)).0 ≡ number_in (cond {A = Result (Unit {0}) Refusal} t (Ok tt) (Err (refusal_of n)))
number_by true n r s = refl
number_by false n r s = refl

-- and its number is the list's
pub answered_number : (r : Record) (x : Call) → number_in (answered r x).0 ≡ call_number (held_by r) x
unfolding answered kept_or
answered_number r x =
    let es = held_by r in
    number_by (eqb (call_number es x) 0) (call_number es x) r (record_of (accepted_call es x)) ∙ call_told es x

-- a fresh record holds nothing
pub fresh_list : held_by (record_of []) ≡ []
unfolding accepted accepted_after
fresh_list = held_record [] refl

-- ---- records that calls gave

-- it is the record of its list
abbrev pub Made : Record → Type 0
Made r = r ≡ record_of (held_by r)

pub made_fresh : Made (record_of [])
made_fresh = ap record_of (sym fresh_list)

made_by : (t : Bool) (n : ℕ) (r : Record) (es : List Entry) → eqb n 0 ≡ t → (n ≡ 0 → accepted es ≡ true) → Made r → Made (cond {A = Answer} t (Ok tt, record_of es) (Err (refusal_of n), r)).1
made_by true n r es e h m = ap record_of (sym (held_record es (h (eqb-true n 0 e))))
made_by false n r es e h m = m

pub made_answered : (r : Record) (x : Call) → Made r → Made (answered r x).1
unfolding answered kept_or
made_answered r x m =
    let es = held_by r in
    made_by (eqb (call_number es x) 0) (call_number es x) r (accepted_call es x) refl (λ n. call_accepted es x (held_accepted r) n) m

-- so its list determines it
pub determined : (r s : Record) → Made r → Made s → held_by r ≡ held_by s → r ≡ s
determined r s m k e = m ∙ ap record_of e ∙ sym k
