-- Half grams in grams: by whether there is a half, and on which side of 0 they are. Assumes nothing.
use mathlib.Core.Path.{◌≡◌, refl, sym, ap, ◌∙◌}
use mathlib.Core.Bool.{Bool, true, false, cond}
use mathlib.Core.List.{List, [], ◌∷◌, ◌++◌, append-nil}
use Prim.Native.Nat.{ℕ, suc, ◌+◌, ◌*◌, ◌/◌, ◌%◌, ◌≤◌, ◌<◌}
use native.Mathlib.Numerals.{add-one}
use native.Mathlib.Omega.{arith}
use lib.Dec.{eqb}
use lib.IntN.{ℤ, pos, negsuc, neg_ℤ, nat_abs}
use lib.Signed.{lt_z}
use lib.ListN.{length, length-append}
use borrow.Author.Tests.{eq-eqb, ne_eqb, ltb-true}
use Rattle.laws.specs.Lists.{Each, each_append}
use Rattle.paper.specs.Units.{half_grams}
use Rattle.paper.specs.Placard.{hyphen, point}
use Rattle.numerals.specs.Numerals.{decimal, numeral}
use Rattle.numerals.proofs.Lengths.{length-decimal, places_some}
use Rattle.numerals.proofs.Words.{decimal_most, decimal_above}
use Rattle.listing.specs.Listings.{halves, signed_halves}

-- ---- without a sign

pub halves_odd : (n : ℕ) → n % 2 ≡ 1 → halves n ≡ decimal (n / 2) ++ point ∷ 53 ∷ []
unfolding halves
halves_odd n e = rw (eq-eqb (n % 2) 1 e)

pub halves_even : (n : ℕ) → (n % 2 ≡ 1 → ⊥) → halves n ≡ decimal (n / 2)
unfolding halves
halves_even n h = rw (ne_eqb (n % 2) 1 h) (append-nil (decimal (n / 2)))

-- the half takes two bytes at most, and no byte of it is below a hyphen
abbrev half : Bool → List ℕ
half t = cond t (point ∷ 53 ∷ []) []

half_most : (t : Bool) → length (half t) ≤ 2
half_most true = omega arith
half_most false = omega arith

half_above : (t : Bool) → Each (λ (x : ℕ). 44 < x) (half t)
half_above true = omega arith
half_above false = tt

length-halves : (n : ℕ) → length (halves n) ≡ length (decimal (n / 2)) + length (half (eqb (n % 2) 1))
unfolding halves
length-halves n = length-append (decimal (n / 2)) (half (eqb (n % 2) 1))

pub size_first : (n : ℕ) → length (decimal (n / 2)) ≤ length (halves n)
size_first n = omega (arith, length-halves n)

pub halves_most : (n : ℕ) → length (halves n) ≤ 22
halves_most n = omega (arith, length-halves n, decimal_most (n / 2), half_most (eqb (n % 2) 1))

halves_some : (n : ℕ) → 0 < length (halves n)
halves_some n = omega (arith, length-halves n, length-decimal (n / 2), places_some 19 (n / 2))

pub halves_above : (n : ℕ) → Each (λ (x : ℕ). 44 < x) (halves n)
unfolding halves
halves_above n = each_append (λ (x : ℕ). 44 < x) (decimal (n / 2)) (half (eqb (n % 2) 1)) (decimal_above (n / 2)) (half_above (eqb (n % 2) 1))

-- ---- with a sign

-- by the sign, and the size; y is what the code holds of x
below : (y : ℤ) → lt_z y (pos 0) ≡ true → signed_halves y ≡ hyphen ∷ halves (nat_abs y)
unfolding signed_halves
below (pos n) b = absurd (omega (arith, ltb-true n 0 b))
below (negsuc n) b = refl

from : (y : ℤ) → lt_z y (pos 0) ≡ false → signed_halves y ≡ halves (nat_abs y)
unfolding signed_halves
from (pos n) b = refl
from (negsuc n) b = cc

pub signed_below : (x y : ℤ) (n : ℕ) → y ≡ x → lt_z y (pos 0) ≡ true → n ≡ nat_abs y → signed_halves x ≡ hyphen ∷ halves n
signed_below x y n e b m = rw (← e, m) (below y b)

pub signed_from : (x y : ℤ) (n : ℕ) → y ≡ x → lt_z y (pos 0) ≡ false → n ≡ nat_abs y → signed_halves x ≡ halves n
signed_from x y n e b m = rw (← e, m) (from y b)

pub signed_some : (x : ℤ) → 0 < length (signed_halves x)
unfolding signed_halves
signed_some (pos n) = halves_some n
signed_some (negsuc n) = omega arith

pub signed_most : (x : ℤ) → length (signed_halves x) ≤ 23
unfolding signed_halves
signed_most (pos n) = omega (arith, halves_most n)
signed_most (negsuc n) = omega (arith, halves_most (n + 1), ap (λ (k : ℕ). length (halves k)) (add-one n))

pub signed_above : (x : ℤ) → Each (λ (x : ℕ). 44 < x) (signed_halves x)
unfolding signed_halves
signed_above (pos n) = halves_above n
signed_above (negsuc n) = (omega arith, halves_above _)

-- ---- whole grams, which have no half

pub whole_total : (n : ℕ) → halves (2 * n) ≡ decimal n
whole_total n =
    let e : 2 * n / 2 ≡ n = omega arith in
    halves_even (2 * n) (λ h. omega (arith, h)) ∙ ap decimal e

pub whole_moment : (z : ℤ) → signed_halves (half_grams z) ≡ numeral z
unfolding half_grams signed_halves numeral
whole_moment (pos n) = whole_total n
whole_moment (negsuc n) =
    let e : 2 * suc n ≡ suc (2 * n + 1) = omega arith in
    ap (λ (k : ℕ). signed_halves (neg_ℤ (pos k))) e ∙ ap (λ (k : ℕ). hyphen ∷ halves k) (sym e) ∙ ap (λ (l : List ℕ). hyphen ∷ l) (whole_total (suc n))
