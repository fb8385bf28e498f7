-- How long a line and its fields are, whatever they say. Assumes nothing.
use mathlib.Core.Path.{◌≡◌, refl}
use mathlib.Core.List.{[], ◌∷◌, ◌++◌}
use Prim.Native.Nat.{ℕ, ◌/◌, ◌%◌}
use native.Mathlib.Omega.{arith}
use lib.ListN.{length, length-append}
use Rattle.std.specs.Prelude.{Some, None}
use Rattle.paper.specs.Rows.{Row}
use Rattle.paper.specs.Placard.{space, feed, point, digits, kilograms, ends, line}
use Rattle.numerals.proofs.Digits.{length_digits}

pub length-kilograms : (n : ℕ) → length (kilograms n) ≡ 8
unfolding kilograms
length-kilograms n =
    omega (arith, length-append (digits 4 (n / 1000)) (point ∷ digits 3 (n % 1000)), length_digits 4 (n / 1000), length_digits 3 (n % 1000))

-- two fields and the space between them
pub length_pair : (a b : ℕ) → length (kilograms a ++ space ∷ kilograms b) ≡ 17
length_pair a b = omega (arith, length-append (kilograms a) (space ∷ kilograms b), length-kilograms a, length-kilograms b)

pub length-ends : (x : Row) → length (ends x) ≡ 17
unfolding ends
length-ends (Some (lo, hi)) = length_pair lo hi
length-ends None = refl

-- all four
pub length_fields : (r w : ℕ) (x : Row) → length (kilograms r ++ space ∷ kilograms w ++ space ∷ ends x) ≡ 35
length_fields r w x =
    omega (arith, length-append (kilograms r ++ space ∷ kilograms w) (space ∷ ends x), length_pair r w, length-ends x)

pub length-line : (r w : ℕ) (x : Row) → length (line r w x) ≡ 36
unfolding line
length-line r w x =
    omega (arith, length-append (kilograms r ++ space ∷ kilograms w ++ space ∷ ends x) (feed ∷ []), length_fields r w x)
