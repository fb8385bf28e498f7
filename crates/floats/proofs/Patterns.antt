-- What a binary64's pattern says of its value: the exponent's field e and the fraction t stand for (2 ^ 52 + t) / 2 ^ (1075 - e).
-- Assumes nothing.
use Rattle.std.specs.Prelude.{◌≡◌, refl, Bool, true, false, cond, T, ℕ, zero, suc, ◌+◌, ◌-◌, ◌*◌, ◌/◌, ◌%◌, ◌^◌, ◌≤◌, ◌<◌, leb, eqb}
use Rattle.std.specs.Float.{Float, nan, inf, fin, binary64}
use Rattle.std.proofs.Common.{sym, le_antisymm, zero-le, ap, ◌∙◌, subst, le_trans, le_of_eq, le_of_lt, lt_of_le_of_lt, lt_of_lt_of_le, not-le_of_lt, not-suc-le-zero, mul_assoc, mul_comm, mul_left_comm, mul_right_comm, mul-one, mul-le-mul, mul-le-mul_right, mul-lt-mul_of_pos_right, mod-lt, lit<, pow-add, pow_pos, pow_mono, arith}
use Rattle.std.proofs.Math.Decide.{dec_lt}
use lib.Ieee.{odd, of_fields, of_bits, to_bits, fits}
use lib.Ieee.Bits.{of_bits-to_bits}
use lib.Ieee.Exact.{HasValue, odd_sign}
use lib.Ieee.Nearest.{closest, closest_mono, closest_same}
use lib.Ieee.Positive.{num, den, den_pos}
use lib.Ieee.Scale.{finite}

-- the exponent's field and the fraction of x's pattern
abbrev pub exponent : Float → ℕ
exponent x = to_bits binary64 x % 2 ^ 63 / 2 ^ 52

abbrev pub fraction : Float → ℕ
fraction x = to_bits binary64 x % 2 ^ 52

-- ---- what they stand for, in units of 2 ^ -1074

abbrev weight : ℕ → ℕ → ℕ
weight zero t = t * 2 ^ 0
weight (suc e) t = (2 ^ 52 + t) * 2 ^ e

fields : (s : Bool) (e t : ℕ) → T (finite (of_fields binary64 s e t)) → HasValue (of_fields binary64 s e t) s (weight e t) (2 ^ 1074)
unfolding of_fields
fields s zero t f = odd_sign 53 s t 0 1074
fields s (suc e) t f = go (eqb (suc e) 2047) (eqb t 0) f
  where
    go : (a b : Bool) → T (finite (cond a (cond b (inf s) nan) (odd 53 s (2 ^ 52 + t) e 1074)))
        → HasValue (cond a (cond b (inf s) nan) (odd 53 s (2 ^ 52 + t) e 1074)) s (weight (suc e) t) (2 ^ 1074)
    go true true g = absurd g
    go true false g = absurd g
    go false b g = odd_sign 53 s (2 ^ 52 + t) e 1074

pattern_fields : (b : ℕ) → of_bits binary64 b ≡ of_fields binary64 (leb (2 ^ 63) b) (b % 2 ^ 63 / 2 ^ 52) (b % 2 ^ 52)
unfolding of_bits
pattern_fields b = refl

crossed : (x : Float) (s : Bool) (a c : ℕ) → HasValue x s a c → num x * c ≡ a * den x
crossed nan s a c h = absurd h
crossed (inf t) s a c h = absurd h
crossed (fin t m e) s a c h = h.1

value : (x : Float) → T (fits binary64 x) → T (finite x) → num x * 2 ^ 1074 ≡ weight (exponent x) (fraction x) * den x
value x held f =
    let b = to_bits binary64 x in
    let is : of_fields binary64 (leb (2 ^ 63) b) (exponent x) (fraction x) ≡ x = sym (pattern_fields b) ∙ of_bits-to_bits binary64 x held in
    crossed x (leb (2 ^ 63) b) (weight (exponent x) (fraction x)) (2 ^ 1074)
    (subst (λ (y : Float). HasValue y (leb (2 ^ 63) b) (weight (exponent x) (fraction x)) (2 ^ 1074)) is
    (fields (leb (2 ^ 63) b) (exponent x) (fraction x) (subst (λ (y : Float). T (finite y)) (sym is) f)))

-- ---- a field below 1012 is below 2 ^ -11, and one above 1075 is 2 ^ 52 or more

small : (e t : ℕ) → t < 2 ^ 52 → e < 1012 → weight e t * 2048 < 2 ^ 1074
small zero t h l = lt_of_le_of_lt (mul-le-mul_right 2048 (le_trans (le_of_eq (mul-one t)) (le_of_lt h))) (lit< tt)
small (suc e) t h l =
    let d : 2 ^ 52 + t ≤ 2 ^ 53 - 1 = omega arith in
    let k : e ≤ 1010 = omega arith in
    lt_of_le_of_lt (mul-le-mul_right 2048 (mul-le-mul d (pow_mono k))) (lit< tt)

large : (e t : ℕ) → 1075 < e → 2000 * 2 ^ 1074 < weight e t
large zero t l = absurd (not-suc-le-zero l)
large (suc e) t l =
    let d : 2 ^ 52 ≤ 2 ^ 52 + t = omega arith in
    let k : 1075 ≤ e = omega arith in
    lt_of_lt_of_le (lit< tt) (mul-le-mul d (pow_mono k))

-- 2 ^ (e - 1) of the units taken off both
shifted : (e t : ℕ) → 1 ≤ e → e ≤ 1075 → (2 ^ 52 + t) * 1000 * 2 ^ 1074 ≡ weight e t * 1000 * 2 ^ (1075 - e)
shifted zero t l h = absurd (not-suc-le-zero l)
shifted (suc e) t l h =
    let split : 2 ^ 1074 ≡ 2 ^ e * 2 ^ (1075 - suc e) = ap (λ (k : ℕ). 2 ^ k) {x = 1074} {y = e + (1075 - suc e)} (omega arith) ∙ pow-add 2 e (1075 - suc e) in
    ap (λ (z : ℕ). (2 ^ 52 + t) * 1000 * z) split ∙ simp (mul_assoc, mul_comm, mul_left_comm)

-- ---- the grams, by the exponent's field

module _ (x : Float) (held : T (fits binary64 x)) (f : T (finite x)) where
  abbrev units : ℕ
  units = weight (exponent x) (fraction x)

  by_units : closest (units * 1000) (2 ^ 1074) ≡ closest (num x * 1000) (den x)
  by_units =
      closest_same (units * 1000) (2 ^ 1074) (num x * 1000) (den x) (pow_pos 1074) (den_pos x)
      (mul_right_comm units 1000 (den x) ∙ ap (λ (z : ℕ). z * 1000) (sym (value x held f)) ∙ mul_right_comm (num x) (2 ^ 1074) 1000)

  -- below 2 ^ -11 kg, which is less than half a gram
  pub no_gram : exponent x < 1012 → 0 ≡ closest (num x * 1000) (den x)
  no_gram h =
      let less = small (exponent x) (fraction x) (mod-lt (to_bits binary64 x) (lit< tt)) h in
      let most = closest_mono (units * 1000) (2 ^ 1074) 1000 2048 (pow_pos 1074) (lit< tt) (omega arith) in
      le_antisymm zero-le most ∙ by_units

  pub exponent_most : num x ≤ 2000 * den x → exponent x ≤ 1075
  exponent_most h =
      let most : units * den x ≤ 2000 * 2 ^ 1074 * den x =
      le_trans (le_of_eq (sym (value x held f))) (le_trans (mul-le-mul_right (2 ^ 1074) h) (le_of_eq (mul_right_comm 2000 (den x) (2 ^ 1074)))) in
      elim (dec_lt 1075 (exponent x)) [
        | yes g ↦ absurd (not-le_of_lt (mul-lt-mul_of_pos_right (large (exponent x) (fraction x) g) (den_pos x)) most)
        | no g ↦ omega arith
      ]

  pub by_significand : 1 ≤ exponent x → exponent x ≤ 1075 → closest ((2 ^ 52 + fraction x) * 1000) (2 ^ (1075 - exponent x)) ≡ closest (num x * 1000) (den x)
  by_significand l h =
      closest_same ((2 ^ 52 + fraction x) * 1000) (2 ^ (1075 - exponent x)) (units * 1000) (2 ^ 1074) (pow_pos (1075 - exponent x)) (pow_pos 1074) (shifted (exponent x) (fraction x) l h)
      ∙ by_units
