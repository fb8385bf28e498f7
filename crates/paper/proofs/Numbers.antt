-- What a call's order says of its number: 0 means that no condition holds, each taken off the list in turn. Assumes nothing.
use mathlib.Core.Path.{◌≡◌, refl}
use mathlib.Core.Bool.{Bool, true, false}
use mathlib.Core.List.{List, [], ◌∷◌}
use Prim.Native.Nat.{ℕ, ◌<◌}
use lib.Dec.{eqb}
use borrow.Author.Tests.{ne_eqb}
use Rattle.paper.specs.declared.Refusal.{Refusal}
use Rattle.paper.specs.declared.Refusal.TheVariants as refusal
use Rattle.paper.specs.Numbers.{number_of, number_in, refusal_of, answer_of}
use native.Mathlib.Omega.{arith}
use Rattle.paper.specs.declared.Entry.{Entry}
use Rattle.paper.specs.Refusals.{first_number, weighing_number, weighing_faults, indicator_number, indicator_faults, sheet_number, sheet_faults, change_number, change_faults, seat_number, seat_faults, undo_number, reading_number}
use Rattle.paper.specs.Journal.{Call, weigh, pair, indicate, install, change, seat, undo, read, call_number}

-- a number above 0 whose condition holds comes first
clear_of : (n : ℕ) (b : Bool) (xs : List (ℕ × Bool)) → 0 < n → first_number ((n, b) ∷ xs) ≡ 0 → (b ≡ false) × (first_number xs ≡ 0)
unfolding first_number
clear_of n true xs h e = absurd (omega arith)
clear_of n false xs h e = (refl, e)

pub no_first : (n : ℕ) (b : Bool) (xs : List (ℕ × Bool)) → 0 < n → first_number ((n, b) ∷ xs) ≡ 0 → b ≡ false
no_first n b xs h e = (clear_of n b xs h e).0

pub no_other : (n : ℕ) (b : Bool) (xs : List (ℕ × Bool)) → 0 < n → first_number ((n, b) ∷ xs) ≡ 0 → first_number xs ≡ 0
no_other n b xs h e = (clear_of n b xs h e).1

-- a refusal is that of its number, so an answer that says no more is told by its number
pub number_back : (r : Refusal) → refusal_of (number_of r) ≡ r
unfolding refusal_of
number_back refusal.Reading = refl
number_back refusal.Distance = refl
number_back refusal.NonLifting = refl
number_back refusal.Range = refl
number_back refusal.Rows = refl
number_back refusal.Change = refl
number_back refusal.NoWeighing = refl
number_back refusal.NoSheet = refl
number_back refusal.Full = refl
number_back refusal.Empty = refl
number_back refusal.ShortBuffer = refl
number_back refusal.NoFile = refl
number_back refusal.Unsteady = refl
number_back refusal.Load = refl

pub positive : (r : Refusal) → 0 < number_of r
positive refusal.Reading = omega arith
positive refusal.Distance = omega arith
positive refusal.NonLifting = omega arith
positive refusal.Range = omega arith
positive refusal.Rows = omega arith
positive refusal.Change = omega arith
positive refusal.NoWeighing = omega arith
positive refusal.NoSheet = omega arith
positive refusal.Full = omega arith
positive refusal.Empty = omega arith
positive refusal.ShortBuffer = omega arith
positive refusal.NoFile = omega arith
positive refusal.Unsteady = omega arith
positive refusal.Load = omega arith

pub not_0 : (r : Refusal) → eqb (number_of r) 0 ≡ false
not_0 r = ne_eqb (number_of r) 0 (λ (z : number_of r ≡ 0). let k = positive r in omega arith)

-- ---- the answer of a call's number has that number

abbrev pub Told : ℕ → Type 0
Told n = number_in (answer_of n (tt {0})) ≡ n

one_of : (n : ℕ) (b : Bool) (xs : List (ℕ × Bool)) → Told n → Told (first_number xs) → Told (first_number ((n, b) ∷ xs))
unfolding first_number
one_of n true xs h k = h
one_of n false xs h k = k

none_of : Told (first_number [])
unfolding first_number
none_of = refl

pub call_told : (es : List Entry) (x : Call) → Told (call_number es x)
unfolding refusal_of call_number weighing_number weighing_faults indicator_number indicator_faults sheet_number sheet_faults change_number change_faults seat_number seat_faults undo_number reading_number
call_told es (weigh w) = one_of 9 _ _ refl (one_of 1 _ _ refl (one_of 2 _ _ refl (one_of 3 _ [] refl none_of)))
call_told es (pair x) = one_of 9 _ _ refl (one_of 1 _ _ refl (one_of 2 _ _ refl (one_of 3 _ [] refl none_of)))
call_told es (indicate x) =
    one_of 13 _ _ refl
    (one_of 14 _ _ refl (one_of 9 _ _ refl (one_of 1 _ _ refl (one_of 2 _ _ refl (one_of 3 _ [] refl none_of)))))
call_told es (install s) = one_of 9 _ _ refl (one_of 2 _ _ refl (one_of 4 _ _ refl (one_of 5 _ [] refl none_of)))
call_told es (change x) =
    one_of 9 _ _ refl (one_of 7 _ _ refl (one_of 2 _ _ refl (one_of 6 _ _ refl (one_of 3 _ [] refl none_of))))
call_told es (seat f) = one_of 9 _ _ refl (one_of 8 _ _ refl (one_of 2 _ [] refl none_of))
call_told es undo = one_of 10 _ [] refl none_of
call_told es (read xs) = one_of 12 _ [] refl none_of
