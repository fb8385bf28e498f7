-- A numeral read back is its number, and how long and of which bytes it is: by the digits, which are a number spelled in
-- base 10. Assumes nothing.
use mathlib.Core.Path.{◌≡◌, refl, ◌∙◌}
use mathlib.Core.Bool.{Bool, true, false, cond}
use mathlib.Core.List.{List, [], ◌∷◌}
use Prim.Native.Nat.{ℕ, zero, suc, ◌+◌, ◌^◌, ◌≤◌, ◌<◌}
use native.Mathlib.Nat.{mod-eq_of_lt}
use native.Mathlib.Omega.{arith}
use lib.IntN.{ℤ, pos, negsuc, neg_ℤ, nat_abs}
use lib.Dec.{eqb}
use lib.ListN.{length, take}
use lib.Seq.{take_all}
use borrow.Author.Tests.{ne_eqb}
use Rattle.laws.specs.Lists.{Each, each_more}
use Rattle.laws.specs.Spelled.{read_spelled}
use Rattle.paper.specs.Placard.{hyphen, nought, digits}
use Rattle.numerals.specs.Numerals.{places, decimal, numeral, digit_of, size_of, most_digits, value_of}
use Rattle.numerals.proofs.Digits.{spelled}
use Rattle.numerals.proofs.Lengths.{length-decimal, places_most, places-within, places_small}
use Rattle.numerals.proofs.Sizes.{reading, size_below}

-- ---- the bytes of a numeral

digits_above : (k n : ℕ) → Each (λ (x : ℕ). 47 < x) (digits k n)
unfolding digits
digits_above zero n = tt
digits_above (suc k) n = (omega arith, digits_above k n)

pub decimal_above : (n : ℕ) → Each (λ (x : ℕ). 44 < x) (decimal n)
unfolding decimal
decimal_above n = each_more (λ (x : ℕ). 47 < x) (λ (x : ℕ). 44 < x) (λ x h. omega arith) (digits (places n) n) (digits_above (places n) n)

pub numeral_above : (z : ℤ) → Each (λ (x : ℕ). 44 < x) (numeral z)
unfolding numeral
numeral_above (pos n) = decimal_above n
numeral_above (negsuc n) = (omega arith, decimal_above (suc n))

-- ---- how many there are

pub decimal_most : (n : ℕ) → length (decimal n) ≤ 20
decimal_most n = omega (arith, length-decimal n, places_most 19 n)

pub numeral_most : (z : ℤ) → length (numeral z) ≤ 21
unfolding numeral
numeral_most (pos n) = omega (arith, decimal_most n)
numeral_most (negsuc n) = omega (arith, decimal_most (suc n))

-- ---- read back

digit_back : (x : ℕ) → x < 10 → digit_of (nought + x) ≡ x
unfolding digit_of
digit_back x l = omega arith

decimal_size : (n : ℕ) → n < 10 ^ most_digits → size_of (decimal n) ≡ n
unfolding decimal
decimal_size n h =
    read_spelled reading spelled digit_back (omega arith) (places n) n ∙ mod-eq_of_lt (places-within 19 n (omega arith))

decimal_short : (n : ℕ) → n < 10 ^ most_digits → take most_digits (decimal n) ≡ decimal n
decimal_short n h = take_all most_digits (decimal n) (omega (arith, length-decimal n, places_small 19 17 n h))

-- a word without a minus
plain : (xs : List ℕ) → Each (λ (x : ℕ). 47 < x) xs → value_of xs ≡ pos (size_of (take most_digits xs))
unfolding value_of size_of
plain [] e = refl
plain (x ∷ xs) e = rw (ne_eqb x hyphen (λ h. omega (arith, e.0)))

decimal-value : (n : ℕ) → value_of (decimal n) ≡ pos (size_of (take most_digits (decimal n)))
unfolding decimal
decimal-value n = plain (digits (places n) n) (digits_above (places n) n)

pub value_back : (z : ℤ) → nat_abs z < 10 ^ most_digits → value_of (numeral z) ≡ z
unfolding value_of numeral
value_back (pos n) h = rw (decimal-value n, decimal_short n h, decimal_size n h)
value_back (negsuc n) h = rw (decimal_short (suc n) h, decimal_size (suc n) h)

-- ---- any word

small_by : (t : Bool) (m n k : ℕ) → m < k → n < k → nat_abs (cond t (neg_ℤ (pos m)) (pos n)) < k
small_by true zero n k h l = h
small_by true (suc m) n k h l = h
small_by false m n k h l = l

pub value_small : (xs : List ℕ) → nat_abs (value_of xs) < 10 ^ most_digits
unfolding value_of
value_small [] = omega arith
value_small (x ∷ xs) =
    small_by (eqb x hyphen) (size_of (take most_digits xs)) (size_of (take most_digits (x ∷ xs))) (10 ^ most_digits) (size_below xs) (size_below (x ∷ xs))
