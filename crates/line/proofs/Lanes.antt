-- Numbers side by side in one: what is done to the one is done to each, where no lane spills into the next. A law about the
-- lowest lane, x, and all that is above it, y, goes up from lane to lane. Assumes nothing.
use mathlib.Core.Path.{◌≡◌, refl, ap, ◌∙◌}
use mathlib.Core.List.{List, [], ◌∷◌, map}
use Prim.Native.Nat.{ℕ, ◌+◌, ◌*◌, ◌-◌, ◌/◌, ◌%◌, ◌^◌, ◌≤◌, ◌<◌}
use native.Mathlib.Nat.{mul-zero, zero-mul, pow-zero, pow-suc}
use native.Mathlib.Omega.{arith}
use lib.ListN.{length}
use lib.Bits.{bit_and}
use Rattle.std.proofs.lemmas.Nat.{and_block, and_mask}
use Rattle.laws.specs.Lists.{Each}
use Rattle.line.specs.Word.{packed, lanes, Packed, quotients, apart}

-- ---- lane by lane

-- f of the whole is g in each lane
pub record Lanewise (base keep most : ℕ) (f g : ℕ → ℕ) : Type 0 where
  pub here : (x y : ℕ) → x < most → f (x + base * y) % keep ≡ g x
  pub above : (x y : ℕ) → x < most → f (x + base * y) / base ≡ f y

pub each_lane : {base keep most : ℕ} {f g : ℕ → ℕ} → Lanewise base keep most f g → (xs : List ℕ) → Each (λ (x : ℕ). x < most) xs → lanes base keep (length xs) (f (packed base xs)) ≡ map g xs
each_lane l [] e = refl
each_lane {base} l (x ∷ xs) e =
    rw (l.here x (packed base xs) e.0, l.above x (packed base xs) e.0, each_lane l xs e.1)

-- the same of what is packed
pub each_part : {base keep most k x : ℕ} {f g : ℕ → ℕ} → Lanewise base keep most f g → (q : ℕ) → q ≡ packed base (lanes base keep k (f x)) → (l : Packed base k most x) → q ≡ packed base (map g l.parts)
each_part {base} w q e l = rw (e, l.whole, ← l.count) (ap (packed base) (each_lane w l.parts l.small))

-- ---- the lowest k bits of each lane of w, by a mask

-- of the lowest lane, and of all that is above it
mask_step : (w k t m s : ℕ) → t ≡ t / 2 ^ w * 2 ^ w + t % 2 ^ w → t % 2 ^ w < 2 ^ w → s < 2 ^ w → s ≡ 2 ^ k - 1 → t % 2 ^ w % 2 ^ k ≡ t % 2 ^ k → bit_and t (m * 2 ^ w + s) ≡ bit_and (t / 2 ^ w) m * 2 ^ w + t % 2 ^ k
mask_step w k t m s whole l h e f =
    ap (λ (x : ℕ). bit_and x (m * 2 ^ w + s)) whole
    ∙ and_block w (t / 2 ^ w) m (t % 2 ^ w) s l h
    ∙ ap (λ (x : ℕ). bit_and (t / 2 ^ w) m * 2 ^ w + x) (rw e (and_mask (t % 2 ^ w) k) ∙ f)

pub mask_two : (t : ℕ) → bit_and t 545460846719 ≡ packed (2 ^ 32) (lanes (2 ^ 32) 128 2 t)
mask_two t =
    omega (arith, mask_step 32 7 t 127 127 (omega arith) (omega arith) (omega arith) refl (omega arith), and_mask (t / 2 ^ 32) 7)

pub mask_four : (t : ℕ) → bit_and t 4222189076152335 ≡ packed (2 ^ 16) (lanes (2 ^ 16) 16 4 t)
mask_four t =
    let u = t / 2 ^ 16 in
    let v = u / 2 ^ 16 in
    omega (
      arith,
      mask_step 16 4 t 64425492495 15 (omega arith) (omega arith) (omega arith) refl (omega arith),
      mask_step 16 4 u 983055 15 (omega arith) (omega arith) (omega arith) refl (omega arith),
      mask_step 16 4 v 15 15 (omega arith) (omega arith) (omega arith) refl (omega arith),
      and_mask (v / 2 ^ 16) 4,
    )

pub by_hundred : Lanewise (2 ^ 32) 128 10000 (λ (u : ℕ). u * 5243 / 524288) (λ (x : ℕ). x / 100)
by_hundred = record {
  here = λ x y h. let e : (x + 2 ^ 32 * y) * 5243 / 524288 ≡ x / 100 + 42950656 * y = omega arith in rw e (omega arith);
  above = λ x y h. omega arith;
}

pub by_ten : Lanewise (2 ^ 16) 16 100 (λ (z : ℕ). z * 103 / 1024) (λ (x : ℕ). x / 10)
by_ten = record {
  here = λ x y h. let e : (x + 2 ^ 16 * y) * 103 / 1024 ≡ x / 10 + 6592 * y = omega arith in rw e (omega arith);
  above = λ x y h. omega arith;
}

-- ---- two lanes of one

-- a quotient by d and what is left, in two lanes of half the width; and there is room for them
pub record Parting (base half most d : ℕ) : Type 0 where
  pub room : (x y n : ℕ) → x < most → 2 * half * y < n → 2 * half * (x + base * y) < n * base
  pub less : (x y q : ℕ) → d * q ≤ y → d * (x / d + base * q) ≤ x + base * y
  pub two : (x y q s : ℕ) → d * q ≤ y → q + (y - d * q) * half ≡ s → x / d + base * q + (x + base * y - d * (x / d + base * q)) * half ≡ x / d + half * (x % d + half * s)

module _ {base half most d : ℕ} (p : Parting base half most d) where
  all_room : (xs : List ℕ) → Each (λ (x : ℕ). x < most) xs → 2 * half * packed base xs < base ^ length xs
  all_room [] e = rw (pow-zero base) (omega arith)
  all_room (x ∷ xs) e = rw (pow-suc base (length xs)) (p.room x (packed base xs) (base ^ length xs) e.0 (all_room xs e.1))

  all_less : (xs : List ℕ) → d * packed base (quotients d xs) ≤ packed base xs
  all_less [] = omega arith
  all_less (x ∷ xs) = p.less x (packed base xs) (packed base (quotients d xs)) (all_less xs)

  all_two : (xs : List ℕ) → packed base (quotients d xs) + (packed base xs - d * packed base (quotients d xs)) * half ≡ packed half (apart d xs)
  all_two [] = rw (mul-zero d, zero-mul half)
  all_two (x ∷ xs) = p.two x (packed base xs) (packed base (quotients d xs)) (packed half (apart d xs)) (all_less xs) (all_two xs)

  module _ {k x : ℕ} (l : Packed base k most x) where
    pub packed-room : 2 * half * x < base ^ k
    packed-room = rw (l.whole, ← l.count) (all_room l.parts l.small)

    module _ (q : ℕ) (e : q ≡ packed base (quotients d l.parts)) where
      pub packed_less : d * q ≤ x
      packed_less = rw (e, l.whole) (all_less l.parts)

      pub packed_two : q + (x - d * q) * half ≡ packed half (apart d l.parts)
      packed_two = rw (e, l.whole) (all_two l.parts)

pub hundreds : Parting (2 ^ 32) (2 ^ 16) 10000 100
hundreds = record {
  room = λ x y n h e. omega arith;
  less = λ x y q h. omega arith;
  two = λ x y q s h e. omega arith;
}

pub tens : Parting (2 ^ 16) (2 ^ 8) 100 10
tens = record {
  room = λ x y n h e. omega arith;
  less = λ x y q h. omega arith;
  two = λ x y q s h e. omega arith;
}
