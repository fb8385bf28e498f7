-- The floats that are loads, as the code tests them, and as a bound on their size. Assumes nothing.
use Rattle.std.specs.Prelude.{◌≡◌, refl, true, false, not, ◌&&◌, T, ◌+◌, ◌*◌, ◌≤◌, ℕ, ℤ, from_bits}
use Rattle.std.specs.Float.{Float, nan, inf, fin, binary64, NotNan}
use Rattle.std.proofs.Common.{sym, ap, ap₂, ◌∙◌, true≢false, arith, ltb-false}
use Rattle.std.proofs.lemmas.Bool.{not-true}
use Rattle.std.proofs.lemmas.Float.{le_of_not-lt, lt_of_le_of_lt, lt_irrefl, T_from_true}
use lib.Ieee.{lt, le, eq, up, down, is_nan, of_bits}
use lib.Ieee.Bits.{is_true}
use lib.Ieee.Positive.{num, den}
use lib.Ieee.Scale.{finite}
use Rattle.laws.specs.Tests.{left, right, left_passes, left_fails, same, isnt}
use Rattle.paper.specs.Indicator.{nought, most_kilograms, is_load}

le_not : (x y : Float) → NotNan x → NotNan y → le x y ≡ not (lt y x)
le_not x y p q =
    same (le x y) (not (lt y x))
    (λ h. ap not (isnt (lt y x) (λ k. lt_irrefl x (lt_of_le_of_lt x y x (T_from_true _ h) (T_from_true _ k)))))
    (λ h. is_true (le x y) (le_of_not-lt y x q p (T_from_true _ h)))

-- a NaN passes neither test, and an infinity fails one
load_tested : (x : Float) → (le nought x && le x most_kilograms) ≡ is_load x
unfolding is_load le lt eq is_nan
load_tested nan = refl
load_tested (inf true) = refl
load_tested (inf false) = refl
load_tested (fin s m e) =
    ap₂ (λ p q. p && q) (le_not nought (fin s m e) tt tt) (le_not (fin s m e) most_kilograms tt tt)

-- the bounds by their patterns
nought_is : nought ≡ from_bits binary64 0
unfolding of_bits
nought_is = refl

most_is : most_kilograms ≡ from_bits binary64 0x409f_4000_0000_0000
unfolding of_bits
most_is = refl

pub from_nought : (x : Float) → le (from_bits binary64 0) x ≡ true → le x (from_bits binary64 0x409f_4000_0000_0000) ≡ is_load x
from_nought x h = left_passes _ _ h ∙ (rw (nought_is, most_is) at load_tested x)

pub below_nought : (x : Float) → le (from_bits binary64 0) x ≡ false → le (from_bits binary64 0) x ≡ is_load x
below_nought x h = h ∙ sym (left_fails _ _ h) ∙ (rw (nought_is, most_is) at load_tested x)

-- ---- what that says of it

pub load_finite : (x : Float) → is_load x ≡ true → T (finite x)
unfolding is_load
load_finite x h =
    T_from_true (finite x) (left (finite x) (not (lt x nought)) (left (finite x && not (lt x nought)) (not (lt most_kilograms x)) h))

pub load_number : (x : Float) → is_load x ≡ true → NotNan x
unfolding is_load is_nan
load_number nan h = absurd (true≢false (sym h))
load_number (inf s) h = tt
load_number (fin s m e) h = tt

not_below : (x : Float) → is_load x ≡ true → lt x nought ≡ false
unfolding is_load
not_below x h = not-true _ (right (finite x) (not (lt x nought)) (left (finite x && not (lt x nought)) (not (lt most_kilograms x)) h))

not_above : (x : Float) → is_load x ≡ true → lt most_kilograms x ≡ false
unfolding is_load
not_above x h = not-true _ (right (finite x && not (lt x nought)) (not (lt most_kilograms x)) h)

-- a size with a minus that is not below nought is nought
minus_nought : (m : ℕ) (e : ℤ) → lt (fin true m e) nought ≡ false → m * up e ≡ 0
unfolding lt
minus_nought m e h = omega (arith, ltb-false 0 (m * up e * 1 + 0 * down e) h)

bounded : (x : Float) → T (finite x) → lt x nought ≡ false → lt most_kilograms x ≡ false → num x ≤ 2000 * den x
unfolding lt
bounded nan f h k = absurd f
bounded (inf s) f h k = absurd f
bounded (fin true m e) f h k = omega (arith, minus_nought m e h)
bounded (fin false m e) f h k = omega (arith, ltb-false (2000 * down e) (m * up e * 1) k)

pub load_most : (x : Float) → is_load x ≡ true → num x ≤ 2000 * den x
load_most x h = bounded x (load_finite x h) (not_below x h) (not_above x h)
