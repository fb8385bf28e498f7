-- What a judgement rests on: bounds grow with the entries, and a list's number by what stands. Assumes nothing.
use Rattle.std.specs.Prelude.{Result, Err, Some, None, Option as RustOption}
use Rattle.std.specs.Option.{ok_or}
use mathlib.Core.Path.{◌≡◌, refl, sym, ◌∙◌, ap}
use mathlib.Core.Bool.{not}
use mathlib.Core.List.{[], ◌∷◌}
use mathlib.Core.Option.{none, some}
use Prim.Native.Nat.{ℕ, ◌+◌, ◌≤◌, ◌<◌}
use native.Mathlib.Decide.{dec_lt}
use native.Mathlib.Omega.{arith}
use borrow.Author.Tests.{le-leb, lt-leb}
use Rattle.paper.specs.declared.Sheet.{Sheet}
use Rattle.paper.specs.declared.Seat.{Seat}
use Rattle.paper.specs.declared.Change.{Change}
use Rattle.paper.specs.declared.Refusal.{Refusal}
use Rattle.paper.specs.declared.Entry.{Entry}
use Rattle.paper.specs.declared.Entry.TheVariants as entry
use Rattle.paper.specs.Record as paper
use Rattle.paper.specs.Record.{is_none}
use Rattle.paper.specs.Refusals.{change_faults, seat_faults, bad_ends, first_number, ◌when◌}
use Rattle.paper.specs.Numbers.{number_of}
use Rattle.paper.proofs.Numbers.{not_0}
use Rattle.balance.specs.declared.Balance.{Balance}
use Rattle.balance.specs.Balance.{plain}
use Rattle.seat.specs.declared.InForce.{InForce}
use Rattle.seat.specs.InForce.{as_pair, found, after as force_after}
use Rattle.judge.specs.declared.Standing.{Standing}
use Rattle.judge.specs.Standing.{Stands, balance_in, plainly, weighed_with, forced_with, faults_of, number_at, balance_after, after, judged}

-- a change before a weighing
pub unweighed : (x : Change) → 7 ≡ first_number (change_faults none x)
unfolding first_number change_faults is_none
unweighed x = refl

-- as many entries stand as may, and fewer
pub full_at : (o : Stands) (e : Entry) → 64 ≤ o.entries → 9 ≡ number_at o e
unfolding number_at first_number
full_at o e h = simp (le-leb 64 o.entries h)

pub room_at : (o : Stands) (e : Entry) → o.entries < 64 → number_at o e ≡ first_number (faults_of o e)
unfolding number_at first_number
room_at o e h = simp (lt-leb 64 o.entries h)

-- an entry that gets no number finds room
pub room_of : (o : Stands) (e : Entry) → number_at o e ≡ 0 → o.entries < 64
room_of o e z =
    elim (dec_lt o.entries 64) as (λ d. o.entries < 64) [
      | yes h ↦ h
      | no h ↦ absurd (let k = full_at o e (omega arith) in omega arith)
    ]

-- ---- an entry is refused, or added

module _ (o : Stands) (e : Entry) where
  pub refused_at : (r : Refusal) → number_of r ≡ number_at o e → ◌≡◌ {A = ℕ × Stands} (number_of r, o) (judged o e)
  unfolding judged
  refused_at r n = simp (sym n, not_0 r)

  module _ (room : o.entries < 64) where
    pub refused_by : (r : Refusal) → number_of r ≡ first_number (faults_of o e) → ◌≡◌ {A = ℕ × Stands} (number_of r, o) (judged o e)
    refused_by r n = refused_at r (n ∙ sym (room_at o e room))

    pub added_by : (p : Stands) → 0 ≡ first_number (faults_of o e) → p ≡ after o e → ◌≡◌ {A = ℕ × Stands} (0, p) (judged o e)
    unfolding judged
    added_by p n k = simp (room_at o e room, sym n, k)

-- what is taken out of an option that is none is the refusal that was given
pub missing : {A : Type 0} (o : RustOption A) (r f : Refusal) → ◌≡◌ {A = Result A Refusal} (Err f) (ok_or o r) → (o ≡ None) × (f ≡ r)
missing None r f k = (refl, cc)
missing (Some x) r f k = cc

-- ---- what stands then

pub weighed_after : (o : Stands) (b : Balance) (p : paper.Balance) → plain b ≡ p → weighed_with o b ≡ record { entries = o.entries + 1; balance = some p; force = o.force }
weighed_after o b p e i = record { entries = o.entries + 1; balance = some (e i); force = o.force }

pub forced_after : (o : Stands) (x : InForce) (y : Sheet × Seat) → as_pair x ≡ y → forced_with o x ≡ record { entries = o.entries + 1; balance = o.balance; force = some y }
forced_after o x y e i = record { entries = o.entries + 1; balance = o.balance; force = some (e i) }

-- ---- a change by the balance that stands, and a seat entry by what is in force

pub by_balance : (o : RustOption Balance) (t : RustOption Balance) (x : Change) → o ≡ t → first_number (change_faults (balance_in t) x) ≡ first_number (change_faults (balance_in o) x)
by_balance o t x e = ap (λ (u : RustOption Balance). first_number (change_faults (balance_in u) x)) (sym e)

abbrev seat_at : RustOption InForce → Seat → ℕ
seat_at o f = first_number (seat_faults (not (is_none (found o))) f)

pub unsheeted : (o : RustOption InForce) (f : Seat) → o ≡ None → 8 ≡ seat_at o f
unfolding first_number seat_faults is_none
unsheeted o f e = rw e refl

pub by_ends : (o : RustOption InForce) (x : InForce) (f : Seat) → o ≡ Some x → first_number (2 when bad_ends f ∷ []) ≡ seat_at o f
unfolding first_number seat_faults is_none
by_ends o x f e = rw e refl

-- ---- what such an entry makes of it

pub balance_changed : (s : Standing) (b : Balance) (x : Change) → s.balance ≡ Some b → after (plainly s) (entry.Change x) ≡ record { entries = s.entries + 1; balance = some (paper.changed (plain b) x); force = found s.force }
balance_changed s b x e i = record { entries = s.entries + 1; balance = balance_after (balance_in (e i)) (entry.Change x); force = found s.force }

pub force_moved : (s : Standing) (x : InForce) (f : Seat) → s.force ≡ Some x → after (plainly s) (entry.Seat f) ≡ record { entries = s.entries + 1; balance = balance_in s.balance; force = some (x.sheet, f) }
force_moved s x f e i = record { entries = s.entries + 1; balance = balance_in s.balance; force = force_after (found (e i)) (entry.Seat f) }
