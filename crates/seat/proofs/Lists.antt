-- What is in force of a list with one entry more, and that it was accepted: by recursion on the list. Assumes nothing.
use mathlib.Core.Path.{◌≡◌, refl, sym, ap, ◌∙◌}
use mathlib.Core.Bool.{true, false, cond, not, true≢false}
use mathlib.Core.List.{List, [], ◌∷◌, ◌++◌}
use mathlib.Core.Option.{Option, none, some, map, or_else, some-injective}
use native.Mathlib.Omega.{arith}
use lib.Dec.{eqb}
use borrow.Author.Tests.{eqb-true}
use Rattle.laws.specs.Tests.{left, right}
use Rattle.laws.specs.Options.{or_either, cond_other}
use Rattle.paper.specs.declared.Sheet.{Sheet}
use Rattle.paper.specs.declared.Seat.{Seat}
use Rattle.paper.specs.declared.Entry.{Entry}
use Rattle.paper.specs.declared.Entry.TheVariants as entry
use Rattle.paper.specs.Record.{as_sheet, sheet_of, as_seat, seat_of, ends_of, is_none, sheet_stands}
use Rattle.paper.specs.Refusals.{first_number, full, sheet_faults, bad_ends, seat_faults, seat_number, entry_number, accepted_after, accepted}
use Rattle.paper.proofs.Numbers.{no_first, no_other}
use Rattle.paper.proofs.Seats.{fixed_ends}
use Rattle.sheet.proofs.Lists.{sheet-more, sheet-accepted}
use Rattle.seat.specs.InForce.{with_ends, in_force, moved, after}

-- ---- one entry more

-- a sheet ends the seat
seat_ended : (es : List Entry) (s : Sheet) → seat_of (es ++ entry.Sheet s ∷ []) ≡ none
unfolding seat_of sheet_of or_else is_none sheet_stands
seat_ended [] s = refl
seat_ended (f ∷ es) s = rw (seat_ended es s, sheet-more es (entry.Sheet s))

-- a seat entry is the last
seat-moved : (es : List Entry) (f : Seat) → seat_of (es ++ entry.Seat f ∷ []) ≡ some f
unfolding seat_of sheet_of or_else is_none sheet_stands
seat-moved [] f = refl
seat-moved (g ∷ es) f = rw (seat-moved es f)

-- another entry leaves the seat
seat_stays : (es : List Entry) (e : Entry) → as_sheet e ≡ none → as_seat e ≡ none → seat_of (es ++ e ∷ []) ≡ seat_of es
unfolding seat_of sheet_of or_else is_none sheet_stands
seat_stays [] e h k = k
seat_stays (f ∷ es) e h k = rw (seat_stays es e h k, sheet-more es e, h)

pub force_more : (es : List Entry) (e : Entry) → in_force (es ++ e ∷ []) ≡ after (in_force es) e
unfolding in_force or_else
force_more es (entry.Weighing w) = rw (sheet-more es (entry.Weighing w), seat_stays es (entry.Weighing w) refl refl)
force_more es (entry.Sheet s) = rw (sheet-more es (entry.Sheet s), seat_ended es s)
force_more es (entry.Change x) = rw (sheet-more es (entry.Change x), seat_stays es (entry.Change x) refl refl)
force_more es (entry.Paired x) = rw (sheet-more es (entry.Paired x), seat_stays es (entry.Paired x) refl refl)
force_more es (entry.Seat f) = rw (sheet-more es (entry.Seat f), seat-moved es f) (by (sheet_of es) (seat_of es))
  where
    by : (o : Option Sheet) (g : Option Seat) → map (with_ends (some f)) o ≡ map (moved f) (map (with_ends g) o)
    by none g = refl
    by (some s) g = refl

-- ---- it was accepted

one_seat : (es : List Entry) (e : Entry) (f : Seat) → as_seat e ≡ some f → entry_number es e ≡ 0 → bad_ends f ≡ false
unfolding entry_number seat_number seat_faults
one_seat es (entry.Weighing w) f e n = cc
one_seat es (entry.Sheet s) f e n = cc
one_seat es (entry.Change x) f e n = cc
one_seat es (entry.Paired x) f e n = cc
one_seat es (entry.Seat g) f e n =
    sym (ap bad_ends (some-injective g f e))
    ∙ no_first 2 (bad_ends g) [] (omega arith) (no_other 8 (not (sheet_stands es)) _ (omega arith) (no_other 9 (full es) _ (omega arith) n))

seat-after : (es fs : List Entry) (f : Seat) → accepted_after es fs ≡ true → seat_of fs ≡ some f → bad_ends f ≡ false
unfolding accepted_after seat_of
seat-after es [] f h e = cc
seat-after es (g ∷ fs) f h e =
    let n = eqb-true (entry_number es g) 0 (left (eqb (entry_number es g) 0) (accepted_after (es ++ g ∷ []) fs) h) in
    let more = right (eqb (entry_number es g) 0) (accepted_after (es ++ g ∷ []) fs) h in
    or_either (seat_of fs) (cond (sheet_stands fs) none (as_seat g)) f (bad_ends f ≡ false) e
    (λ k. seat-after (es ++ g ∷ []) fs f more k)
    (λ k. one_seat es g f (cond_other (sheet_stands fs) (as_seat g) f k) n)

-- the sheet in force of an accepted list is one that its call accepts, and so are the ends of its front arm
module _ (es : List Entry) (s : Sheet) (h : accepted es ≡ true) (e : sheet_of es ≡ some s) where
  ends_by : (o : Option Seat) → seat_of es ≡ o → bad_ends (ends_of s o) ≡ false
  unfolding accepted
  ends_by none k = fixed_ends s (sheet-accepted es s h e)
  ends_by (some f) k = seat-after [] es f h k

  pub ends-accepted : bad_ends (ends_of s (seat_of es)) ≡ false
  ends-accepted = ends_by (seat_of es) refl

-- ---- what is in force, apart

nothing-found : {x : Sheet × Seat} → none ≡ some x → ⊥
unfolding is_none
nothing-found e = true≢false (ap is_none e)

pub force_none : (es : List Entry) → in_force es ≡ none → sheet_of es ≡ none
unfolding in_force
force_none es e = by (sheet_of es) refl
  where
    by : (o : Option Sheet) → sheet_of es ≡ o → o ≡ none
    by none k = refl
    by (some s) k = absurd (nothing-found (sym (rw k at e)))

pub force_apart : (es : List Entry) (s : Sheet) (f : Seat) → in_force es ≡ some (s, f) → (sheet_of es ≡ some s) × (ends_of s (seat_of es) ≡ f)
unfolding in_force
force_apart es s f e = by (sheet_of es) refl
  where
    by : (o : Option Sheet) → sheet_of es ≡ o → (sheet_of es ≡ some s) × (ends_of s (seat_of es) ≡ f)
    by none k = absurd (nothing-found (rw k at e))
    by (some t) k =
        let z : ◌≡◌ {A = Sheet × Seat} (t, ends_of t (seat_of es)) (s, f) = some-injective _ _ (rw k at e) in
        let same : t ≡ s = ap (λ (x : Sheet × Seat). x.0) z in
        (rw same at k, rw same at (ap (λ (x : Sheet × Seat). x.1) z))

pub force_accepted : (es : List Entry) (s : Sheet) (f : Seat) → accepted es ≡ true → in_force es ≡ some (s, f) → (first_number (sheet_faults s) ≡ 0) × (bad_ends f ≡ false)
force_accepted es s f h e =
    let apart = force_apart es s f e in
    (sheet-accepted es s h apart.0, rw apart.1 at (ends-accepted es s h apart.0))
