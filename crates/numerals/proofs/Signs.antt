-- Numbers on either side of 0: their numerals as std prints them, and the number of a word with a minus in front and of one
-- without. Assumes nothing.
use mathlib.Core.Path.{◌≡◌, refl, ap}
use mathlib.Core.Bool.{Bool, true, false, ◌&&◌, false≢true}
use mathlib.Core.List.{List, [], ◌∷◌}
use Prim.Native.Nat.{ℕ, suc, ◌^◌, ◌<◌}
use native.Mathlib.Omega.{arith}
use lib.Dec.{eqb}
use lib.IntN.{ℤ, pos, negsuc, neg_ℤ, ◌-ℤ◌}
use lib.Signed.{mag}
use lib.ListN.{length, take, drop}
use lib.Pointwise.{pointwise}
use mir.Syntax.{w64}
use mir.Val.{SFits, to_z}
use Rattle.std.specs.Fmt.{signed_decimal}
use Rattle.laws.specs.Tests.{left}
use Rattle.laws.specs.Z.{zs, is_bits, is_sub}
use Rattle.paper.specs.Placard.{hyphen}
use Rattle.numerals.specs.Numerals.{numeral, size_of, most_digits, value_of}
use Rattle.numerals.proofs.Lengths.{length-decimal, places_some, decimal_same}

-- ---- numerals

-- as std has them
pub numeral_same : (z : ℤ) → mag z < 2 ^ 63 → signed_decimal z ≡ numeral z
unfolding numeral
numeral_same (pos n) h = decimal_same n (omega arith)
numeral_same (negsuc n) h = ap (λ ds. hyphen ∷ ds) (decimal_same (suc n) (omega arith))

pub numeral_some : (x : ℤ) → 0 < length (numeral x)
unfolding numeral
numeral_some (pos n) = omega (arith, length-decimal n, places_some 19 n)
numeral_some (negsuc n) = omega arith

-- ---- the number of a word

-- one size less another
pub less_fits : {a b : ℕ} → a < 10 ^ most_digits → b < 10 ^ most_digits → SFits w64 (to_z w64 a -ℤ to_z w64 b)
less_fits {a} {b} h k = omega (arith, zs, is_sub (is_bits a (omega arith)) (is_bits b (omega arith)))

-- as std tests whether a word begins with a minus
abbrev pub Minus : List ℕ → Bool → Type 0
Minus s b = pointwise eqb (take 1 s) (hyphen ∷ []) ≡ b

pub value-minus : (s rest : List ℕ) (n : ℕ) → Minus s true → rest ≡ drop 1 s → n ≡ size_of (take most_digits rest) → neg_ℤ (pos n) ≡ value_of s
unfolding value_of
value-minus [] rest n m d e = absurd (false≢true m)
value-minus (x ∷ xs) rest n m d e = rw (left (eqb x hyphen) true m, e, d)

not_so : (b : Bool) → (b && true) ≡ false → b ≡ false
not_so true e = e
not_so false e = refl

pub value-plain : (s : List ℕ) (n : ℕ) → Minus s false → n ≡ size_of (take most_digits s) → pos n ≡ value_of s
unfolding value_of size_of
value-plain [] n m e = ap pos e
value-plain (x ∷ xs) n m e = rw (e, not_so (eqb x hyphen) m)
