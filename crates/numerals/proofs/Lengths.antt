-- How many digits a number takes, and which: by the digits that are left when the last is taken off. Assumes nothing.
use mathlib.Core.Path.{◌≡◌, sym, ap}
use mathlib.Core.List.{List, [], ◌∷◌, ◌++◌}
use mathlib.Core.Bool.{Bool, true, false, cond}
use Prim.Native.Nat.{ℕ, zero, suc, ◌+◌, ◌/◌, ◌%◌, ◌^◌, ◌≤◌, ◌<◌}
use native.Mathlib.Decide.{dec_le}
use native.Mathlib.Nat.{pow-suc, mod-eq_of_lt}
use native.Mathlib.Omega.{arith}
use lib.Dec.{leb}
use lib.ListN.{length}
use borrow.Author.Tests.{le-leb, lt-leb}
use Rattle.std.specs.Fmt.{decimal as std-decimal}
use Rattle.std.proofs.lemmas.Fmt.{decimal_by_steps}
use Rattle.paper.specs.Placard.{nought}
use Rattle.numerals.specs.Numerals.{places_in, places, decimal}
use Rattle.numerals.proofs.Digits.{length_digits, digits_none, digits_last}

pub length-decimal : (n : ℕ) → length (decimal n) ≡ places n
unfolding decimal
length-decimal n = length_digits (places n) n

-- ---- one turn: with k places at hand

pub places_one : (k n : ℕ) → n < 10 → places_in k n ≡ 1
unfolding places_in
places_one zero n h = omega arith
places_one (suc k) n h = rw (lt-leb 10 n h)

pub places-more : (k n : ℕ) → 10 ≤ n → places_in (suc k) n ≡ suc (places_in k (n / 10))
unfolding places_in
places-more k n h = rw (le-leb 10 n h)

-- ---- bounds

some_by : (t : Bool) (m : ℕ) → 0 < cond t (suc m) 1
some_by true m = omega arith
some_by false m = omega arith

pub places_some : (k n : ℕ) → 0 < places_in k n
unfolding places_in
places_some zero n = omega arith
places_some (suc k) n = some_by (leb 10 n) (places_in k (n / 10))

most_by : (t : Bool) (k m : ℕ) → m ≤ suc k → cond t (suc m) 1 ≤ suc (suc k)
most_by true k m h = omega arith
most_by false k m h = omega arith

pub places_most : (k n : ℕ) → places_in k n ≤ suc k
unfolding places_in
places_most zero n = omega arith
places_most (suc k) n = most_by (leb 10 n) k (places_in k (n / 10)) (places_most k (n / 10))

-- the digits are enough
pub places-within : (k n : ℕ) → n < 10 ^ suc k → n < 10 ^ places_in k n
unfolding places_in
places-within zero n h = omega arith
places-within (suc k) n h =
    let e = pow-suc 10 (suc k) in
    elim (dec_le 10 n) as (λ d. n < 10 ^ places_in (suc k) n) [
      | yes l ↦ rw (places-more k n l, pow-suc 10 (places_in k (n / 10))) (omega (arith, places-within k (n / 10) (omega arith)))
      | no l ↦ rw (places_one (suc k) n (omega arith)) (omega arith)
    ]

-- and no more than some that are enough
pub places_small : (k j n : ℕ) → n < 10 ^ suc j → places_in k n ≤ suc j
places_small zero j n h = omega (arith, places_most 0 n)
places_small (suc k) zero n h = omega (arith, places_one (suc k) n (omega arith))
places_small (suc k) (suc j) n h =
    let e = pow-suc 10 (suc j) in
    elim (dec_le 10 n) as (λ d. places_in (suc k) n ≤ suc (suc j)) [
      | yes l ↦ rw (places-more k n l) (omega (arith, places_small k j (n / 10) (omega arith)))
      | no l ↦ rw (places_one (suc k) n (omega arith)) (omega arith)
    ]

-- one place more than enough makes no difference
places_enough : (k n : ℕ) → n < 10 ^ suc k → places_in (suc k) n ≡ places_in k n
places_enough zero n h = rw (places_one 1 n (omega arith), places_one 0 n (omega arith))
places_enough (suc k) n h =
    let e = pow-suc 10 (suc k) in
    elim (dec_le 10 n) as (λ d. places_in (suc (suc k)) n ≡ places_in (suc k) n) [
      | yes l ↦ rw (places-more (suc k) n l, places-more k n l) (ap suc (places_enough k (n / 10) (omega arith)))
      | no l ↦ rw (places_one (suc (suc k)) n (omega arith), places_one (suc k) n (omega arith))
    ]

-- ---- the last digit, and what stands before it

decimal_one : (n : ℕ) → n < 10 → decimal n ≡ (nought + n) ∷ []
unfolding decimal
decimal_one n h = rw (places_one 19 n h, digits_last 0 n, digits_none (n / 10), mod-eq_of_lt h)

decimal-more : (n : ℕ) → 10 ≤ n → n < 10 ^ 20 → decimal n ≡ decimal (n / 10) ++ (nought + n % 10) ∷ []
unfolding decimal
decimal-more n h l =
    rw (places-more 18 n h, ← places_enough 18 (n / 10) (omega arith)) (digits_last (places (n / 10)) n)

-- ---- as std has them

abbrev Same : ℕ → List ℕ → Type 0
Same n ds = n < 10 ^ 20 → decimal n ≡ ds

same_more : (n : ℕ) (ds : List ℕ) → 10 ≤ n → Same (n / 10) ds → Same n (ds ++ (48 + n % 10) ∷ [])
same_more n ds h s l = rw (decimal-more n h l, s (omega arith))

pub decimal_same : (n : ℕ) → n < 2 ^ 64 → std-decimal n ≡ decimal n
decimal_same n h = sym (decimal_by_steps Same (λ n h l. decimal_one n h) same_more n h (omega arith))
