-- Decimal digits: how many there are, that they are a number spelled in base 10, and how they are written one by one. Assumes
-- nothing.
use mathlib.Core.Path.{◌≡◌, refl, sym, ap, ◌∙◌}
use mathlib.Core.List.{List, [], ◌∷◌, ◌++◌, append_assoc, append-nil}
use Prim.Native.Nat.{ℕ, zero, suc, ◌+◌, ◌-◌, ◌/◌, ◌%◌, ◌^◌, ◌≤◌, ◌<◌}
use native.Mathlib.Nat.{pow-zero, pow-succ', pow-le-pow_right, div-one, div-div-eq-div-mul, div-eq_of_lt}
use native.Mathlib.Omega.{arith}
use lib.ListN.{length}
use Rattle.laws.specs.Spelled.{Spelling, length_spelled}
use Rattle.paper.specs.Placard.{nought, digits}

pub spelled : Spelling digits (λ (x : ℕ). nought + x) 10
unfolding digits
spelled = record { none = λ n. refl; more = λ k n. refl }

pub length_digits : (k n : ℕ) → length (digits k n) ≡ k
length_digits = length_spelled spelled

-- none, and the last behind the others
pub digits_none : (n : ℕ) → digits 0 n ≡ []
unfolding digits
digits_none n = refl

pub digits_last : (k n : ℕ) → digits (suc k) n ≡ digits k (n / 10) ++ (nought + n % 10) ∷ []
unfolding digits
digits_last zero n = rw (pow-zero 10, div-one n)
digits_last (suc k) n =
    rw (div-div-eq-div-mul n 10 (10 ^ k), ← pow-succ' 10 k, ← digits_last k n)

-- ---- digits written one by one

-- the first of those that are left
pub digit_more : (n place r x : ℕ) (s t : List ℕ) → 0 < place → r ≡ 10 ^ (place - 1) → x ≡ nought + n / r % 10 → t ≡ s ++ x ∷ [] → t ++ digits (place - 1) n ≡ s ++ digits place n
unfolding digits
digit_more n place r x s t h q e f =
    let k : place ≡ suc (place - 1) = omega arith in
    rw (f, e, q) (append_assoc s (_ ∷ []) (digits (place - 1) n) ∙ ap (λ (i : ℕ). s ++ digits i n) (sym k))

-- none is left
pub digits_all : (n place : ℕ) (s t : List ℕ) → place ≤ 0 → s ++ digits place n ≡ t → s ≡ t
digits_all n place s t h e =
    let k : place ≡ 0 = omega arith in
    sym (append-nil s) ∙ ap (λ ds. s ++ ds) (sym (digits_none n)) ∙ ap (λ (i : ℕ). s ++ digits i n) (sym k) ∙ e

-- a number of 64 bits has only noughts from the twentieth place on
pub digit_none : (n place : ℕ) → n < 2 ^ 64 → 20 ≤ place → 0 ≡ n / 10 ^ place % 10
digit_none n place h l =
    let p : 10 ^ 20 ≤ 10 ^ place = pow-le-pow_right {n = 10} (omega arith) {i = 20} {j = place} l in
    rw (div-eq_of_lt {n = n} {m = 10 ^ place} (omega (arith, p))) refl
