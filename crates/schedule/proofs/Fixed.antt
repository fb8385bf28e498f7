-- Numbers with decimals: how long they are, and by the side of 0 that they are on. Assumes nothing.
use Rattle.std.proofs.Common.{◌≡◌, refl, true, false, ◌∷◌, ℕ, suc, ◌+◌, ◌<◌, ◌/◌, ◌^◌, ◌≤◌, ℤ, pos, negsuc, length, length-append, arith}
use lib.IntN.{nat_abs}
use lib.Signed.{lt_z}
use borrow.Author.Tests.{ltb-true}
use Rattle.paper.specs.Placard.{hyphen, point, digits}
use Rattle.numerals.specs.Numerals.{decimal}
use Rattle.numerals.proofs.Digits.{length_digits}
use Rattle.numerals.proofs.Words.{decimal_most}
use Rattle.schedule.specs.Schedules.{decimals, fixed}

-- ---- how long they are

pub length-decimals : (k n : ℕ) → length (decimals k n) ≡ length (decimal (n / 10 ^ k)) + 1 + k
unfolding decimals
length-decimals k n = omega (arith, length-append (decimal (n / 10 ^ k)) (point ∷ digits k n), length_digits k n)

decimals_most : (k n : ℕ) → length (decimals k n) ≤ 21 + k
decimals_most k n = omega (arith, length-decimals k n, decimal_most (n / 10 ^ k))

pub fixed_most : (k : ℕ) (z : ℤ) → length (fixed k z) ≤ 22 + k
unfolding fixed
fixed_most k (pos n) = omega (arith, decimals_most k n)
fixed_most k (negsuc n) = omega (arith, decimals_most k (suc n))

pub fixed_some : (k : ℕ) (z : ℤ) → 0 < length (fixed k z)
unfolding fixed
fixed_some k (pos n) = omega (arith, length-decimals k n)
fixed_some k (negsuc n) = omega arith

-- ---- by the side of 0; y is what the code holds of x

below : (k : ℕ) (y : ℤ) → lt_z y (pos 0) ≡ true → fixed k y ≡ hyphen ∷ decimals k (nat_abs y)
unfolding fixed
below k (pos n) b = absurd (omega (arith, ltb-true n 0 b))
below k (negsuc n) b = refl

from : (k : ℕ) (y : ℤ) → lt_z y (pos 0) ≡ false → fixed k y ≡ decimals k (nat_abs y)
unfolding fixed
from k (pos n) b = refl
from k (negsuc n) b = cc

pub fixed_below : (k : ℕ) (x y : ℤ) (n : ℕ) → y ≡ x → lt_z y (pos 0) ≡ true → n ≡ nat_abs y → fixed k x ≡ hyphen ∷ decimals k n
fixed_below k x y n e b m = rw (← e, m) (below k y b)

pub fixed_from : (k : ℕ) (x y : ℤ) (n : ℕ) → y ≡ x → lt_z y (pos 0) ≡ false → n ≡ nat_abs y → fixed k x ≡ decimals k n
fixed_from k x y n e b m = rw (← e, m) (from k y b)
