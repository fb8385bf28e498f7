-- The number of some digits, which is read in base 10. Assumes nothing.
use mathlib.Core.Path.{◌≡◌, refl, sym, ap, ◌∙◌}
use mathlib.Core.List.{List, [], ◌∷◌}
use Prim.Native.Nat.{ℕ, ◌+◌, ◌*◌, ◌^◌, ◌≤◌, ◌<◌, min}
use native.Mathlib.Decide.{dec_le}
use native.Mathlib.Nat.{zero-lt-suc, pow-suc, pow-le-pow_right}
use native.Mathlib.Numerals.{add-one}
use native.Mathlib.Omega.{arith}
use lib.Arith.{digits_lt}
use lib.ListN.{length, get_or, take, length-take}
use lib.Seq.{take-suc, take_all}
use Rattle.laws.specs.Lists.{Each}
use Rattle.laws.specs.Spelled.{Reading, read_more, read_bound}
use Rattle.numerals.specs.Numerals.{digit_of, size_of, most_digits}

pub reading : Reading size_of digit_of 10
unfolding size_of
reading = record { none = refl; more = λ x xs. refl }

pub digit_small : (x : ℕ) → digit_of x < 10
unfolding digit_of
digit_small x = omega arith

digits_small : (xs : List ℕ) → Each (λ (x : ℕ). digit_of x < 10) xs
digits_small [] = tt
digits_small (x ∷ xs) = (digit_small x, digits_small xs)

pub size_below : (xs : List ℕ) → size_of (take most_digits xs) < 10 ^ most_digits
size_below xs =
    let ys = take most_digits xs in
    let h : length ys ≤ most_digits = omega (arith, length-take most_digits xs) in
    omega (arith, read_bound reading (omega arith) ys (digits_small ys), pow-le-pow_right {n = 10} (zero-lt-suc 9) {i = length ys} {j = most_digits} h)

-- ---- the loop that reads them: n is the number of the first i

abbrev pub Read : List ℕ → ℕ → ℕ → Type 0
Read s n i = (i ≤ length s) × (n < 10 ^ i) × (n ≡ size_of (take i s))

pub read_none : (s : List ℕ) → Read s 0 0
unfolding size_of
read_none s = (omega arith, omega arith, refl)

-- seventeen digits leave room for one more
pub read_room : (s : List ℕ) (n i : ℕ) → Read s n i → i < length s → length s ≤ most_digits → n < 10 ^ 17
read_room s n i r l h = omega (arith, r.1, pow-le-pow_right {n = 10} (zero-lt-suc 9) {i = i} {j = 17} (omega arith))

pub read_one : (s : List ℕ) (n i x : ℕ) → Read s n i → i < length s → x ≡ digit_of (get_or s i 0) → Read s (n * 10 + x) (i + 1)
read_one s n i x r l e = (
  omega arith,
  rw (add-one i, pow-suc 10 i) (digits_lt r.1 (rw e (digit_small (get_or s i 0)))),
  rw (add-one i, take-suc s i 0 l, read_more reading (take i s) (get_or s i 0), r.2, e),
)

-- the digits that are looked at, as the code takes them
pub head_taken : (s : List ℕ) (k : ℕ) → k ≡ min (length s) most_digits → take k s ≡ take most_digits s
head_taken s k e =
    elim (dec_le (length s) most_digits) as (λ d. take k s ≡ take most_digits s) [
      | yes l ↦ take_all k s (omega arith) ∙ sym (take_all most_digits s l)
      | no l ↦ let f : k ≡ most_digits = omega arith in rw f
    ]

pub read_all : (s : List ℕ) (n k i : ℕ) → k ≡ min (length s) most_digits → Read (take k s) n i → length (take k s) ≤ i → (n ≡ size_of (take most_digits s)) × (n < 10 ^ most_digits)
read_all s n k i e r h =
    let f : n ≡ size_of (take most_digits s) = r.2 ∙ ap size_of (take_all i (take k s) h ∙ head_taken s k e) in
    (f, omega (arith, f, size_below s))
