-- n / d to the nearest whole number, a tie going to the even one: no other is nearer, and no second one is so. Assumes nothing.
use Rattle.std.specs.Prelude.{◌≡◌, ◌⊎◌, ℕ, ◌+◌, ◌*◌, ◌-◌, ◌/◌, ◌%◌, ◌≤◌, ◌<◌, pos, ◌-ℤ◌, nat_abs}
use Rattle.std.proofs.Common.{sym, ap, subst, le_of_eq, inl, inr, add-mul, mul-le-mul_right, div-add-mod', mod-lt, le_antisymm, arith}
use Rattle.std.proofs.Math.Decide.{dec_lt}
use Rattle.std.proofs.lemmas.Bool.Decides.{nat_tests}
use lib.Ieee.Nearest.{closest}

-- how far g is from n / d, in parts of 1 / d
abbrev pub apart : ℕ → ℕ → ℕ → ℕ
apart n d g = nat_abs (pos n -ℤ pos (g * d))

above : (n m r : ℕ) → n ≡ m + r → nat_abs (pos n -ℤ pos m) ≡ r
above n m r e = grind arith

under : (n m r : ℕ) → n + r ≡ m → nat_abs (pos n -ℤ pos m) ≡ r
under n m r e = grind arith

within : (n m : ℕ) → (n ≤ m + nat_abs (pos n -ℤ pos m)) × (m ≤ n + nat_abs (pos n -ℤ pos m))
within n m = grind arith

-- a whole number k more or fewer is k * d off
steps : (g h k d : ℕ) → g + k ≤ h → g * d + k * d ≤ h * d
steps g h k d l = subst (λ (z : ℕ). z ≤ h * d) (add-mul g k d) (mul-le-mul_right d l)

module _ (n d : ℕ) where
  -- within a half, and even where it is a half
  pub record IsClose (g : ℕ) : Type 0 where
    pub half : apart n d g * 2 ≤ d
    pub even : apart n d g * 2 ≡ d → g % 2 ≡ 0

  -- k steps lead no farther than by way of n / d
  between : (g h k : ℕ) → g + k ≤ h → k * d ≤ apart n d g + apart n d h
  between g h k l = omega (arith, steps g h k d l, within n (g * d), within n (h * d))

  other : (g h : ℕ) → (g ≡ h) ⊎ (d ≤ apart n d g + apart n d h)
  other g h =
      elim (dec_lt g h) [
        | yes l ↦ inr (omega (arith, between g h 1 (omega arith)))
        | no l ↦ elim (dec_lt h g) [ yes k ↦ inr (omega (arith, between h g 1 (omega arith))) | no k ↦ inl (omega arith) ]
      ]

  module _ (g : ℕ) (c : IsClose g) where
    pub none_nearer : (h : ℕ) → apart n d g ≤ apart n d h
    none_nearer h =
        elim (other g h) as (λ _. apart n d g ≤ apart n d h) [
          | inl e ↦ le_of_eq (ap (apart n d) e)
          | inr l ↦ omega (arith, c.half)
        ]

    pub even_at_tie : (h : ℕ) → apart n d h ≡ apart n d g → (h ≡ g) ⊎ (g % 2 ≡ 0)
    even_at_tie h e = elim (other g h) [ inl s ↦ inl (sym s) | inr l ↦ inr (c.even (omega (arith, c.half))) ]

  -- two even ones are two steps apart, and so not both close
  one_even : 0 < d → (g h : ℕ) → IsClose g → apart n d h ≡ apart n d g → g % 2 ≡ 0 → h % 2 ≡ 0 → h ≡ g
  one_even D g h c e p q =
      elim (dec_lt g h) [
        | yes l ↦ absurd (omega (arith, c.half, between g h 2 (omega arith)))
        | no l ↦ elim (dec_lt h g) [ yes k ↦ absurd (omega (arith, c.half, between h g 2 (omega arith))) | no k ↦ omega arith ]
      ]

  pub only_close : 0 < d → (g h : ℕ) → IsClose g → apart n d h ≤ apart n d g → (apart n d g ≡ apart n d h → (g ≡ h) ⊎ (h % 2 ≡ 0)) → h ≡ g
  only_close D g h c l f =
      let e = le_antisymm l (none_nearer g c h) in
      elim (f (sym e)) [
        | inl s ↦ sym s
        | inr q ↦ elim (even_at_tie g c h e) [ inl s ↦ s | inr p ↦ one_even D g h c e p q ]
      ]

  -- ---- `closest` is close

  close_at : (g r : ℕ) → closest n d ≡ g → apart n d g ≡ r → r * 2 ≤ d → (r * 2 ≡ d → g % 2 ≡ 0) → IsClose (closest n d)
  close_at g r e a h k = subst IsClose (sym e) (record { half = omega arith; even = λ t. k (omega arith) })

  pub closest_close : 0 < d → IsClose (closest n d)
  closest_close D =
      let q = n / d in
      let r = n % d in
      let is = div-add-mod' n d in
      let rest = mod-lt n D in
      let down = above n (q * d) r (sym is) in
      let up = under n ((q + 1) * d) (d - r) (omega (arith, add-mul q 1 d)) in
      elim (dec_lt (r * 2) d) [
        | yes l ↦ close_at q r (grind (arith, nat_tests)) down (omega arith) (λ t. absurd (omega arith))
        | no l ↦
            elim (dec_lt d (r * 2)) [
              | yes k ↦ close_at (q + 1) (d - r) (grind (arith, nat_tests)) up (omega arith) (λ t. absurd (omega arith))
              | no k ↦
                  elim (dec_lt (q % 2) 1) [
                    | yes m ↦ close_at q r (grind (arith, nat_tests)) down (omega arith) (λ t. omega arith)
                    | no m ↦ close_at (q + 1) (d - r) (grind (arith, nat_tests)) up (omega arith) (λ t. omega arith)
                  ]
            ]
      ]
