-- The condition of number 1 by method, each way by computing its tests, and what a weighing without it has. Assumes nothing.
use mathlib.Core.Path.{◌≡◌, refl, sym, ◌∙◌}
use mathlib.Core.Bool.{Bool, true, false, not, ◌&&◌, ◌||◌, and-true, or-true, true≢false}
use mathlib.Core.Logic.{◌⊎◌, inl, inr}
use Prim.Native.Nat.{ℕ, ◌+◌, ◌-◌, ◌≤◌, ◌<◌}
use native.Mathlib.Decide.{dec_le, ℕ_discrete}
use native.Mathlib.Omega.{arith}
use lib.Dec.{leb, ltb, leb-zero}
use lib.IntN.{pos, negsuc, ◌-ℤ◌}
use lib.Signed.{le_z, ◌≤ℤ◌}
use borrow.Author.Tests.{le-leb, lt-leb, leb-true, leb-false, ltb-false, not-false}
use Rattle.laws.specs.Tests.{right, isnt, not_left, not_right, ltb_not, span}
use Rattle.laws.specs.Z.{zs, goal_le_z, goal_nle_z, is_nat, is_sub}
use Rattle.paper.proofs.Units.{arm_range}
use Rattle.paper.specs.declared.Weighing.{Weighing}
use Rattle.paper.specs.Units.{between, is_weight, is_arm}
use Rattle.paper.specs.Record.{total_of}
use Rattle.paper.specs.Refusals.{bad_reading, bad_distance, bad_part}

-- a difference as a total
lift : (p q : ℕ) → p ≤ 2000000 → not (between (pos 1) (pos 2000000) (pos p -ℤ pos q)) ≡ leb p q
lift p q h =
    elim (dec_le p q) as (λ d. not (between (pos 1) (pos 2000000) (pos p -ℤ pos q)) ≡ leb p q) [
      | yes k ↦ let low : le_z (pos 1) (pos p -ℤ pos q) ≡ false = goal_nle_z (pos 1) (pos p -ℤ pos q) (omega (arith, is_sub (is_nat p) (is_nat q))) in simp (low, le-leb p q k)
      | no k ↦ let low : le_z (pos 1) (pos p -ℤ pos q) ≡ true = goal_le_z (pos 1) (pos p -ℤ pos q) (omega (arith, is_sub (is_nat p) (is_nat q))) in let high : le_z (pos p -ℤ pos q) (pos 2000000) ≡ true = goal_le_z (pos p -ℤ pos q) (pos 2000000) (omega (arith, is_sub (is_nat p) (is_nat q))) in simp (low, high, lt-leb p q (omega arith))
    ]

-- a number is in no range that it lies before or behind
outside : (lo hi n : ℕ) → not (leb lo n && leb n hi) ≡ (ltb n lo || ltb hi n)
outside lo hi n = rw (ltb_not n lo, ltb_not hi n) (by (leb lo n) (leb n hi))
  where
    by : (a b : Bool) → not (a && b) ≡ (not a || not b)
    by true b = refl
    by false b = refl

one_or_two : (m : ℕ) → 1 ≤ m → m ≤ 2 → (m ≡ 1) ⊎ (m ≡ 2)
one_or_two m l h = elim (ℕ_discrete m 1) as (λ d. (m ≡ 1) ⊎ (m ≡ 2)) [ yes e ↦ inl e | no n ↦ inr (omega arith) ]

module _ (w : Weighing) where
  pub p_over : 2000000 < w.p → bad_reading w ≡ true
  unfolding bad_reading is_weight
  p_over h = simp (lt-leb w.p 2000000 h, or-true)

  pub q_over : 2000000 < w.q → bad_reading w ≡ true
  unfolding bad_reading is_weight
  q_over h = simp (lt-leb w.q 2000000 h, or-true)

  module _ (hp : w.p ≤ 2000000) (hq : w.q ≤ 2000000) where
    whole : (w.m ≡ 1) ⊎ (w.m ≡ 2) → bad_reading w ≡ (ltb w.p w.q || not (leb 1 w.p))
    unfolding bad_reading is_weight total_of
    whole (inl e) = simp (e, le-leb w.p 2000000 hp, le-leb w.q 2000000 hq, and-true)
    whole (inr e) = simp (e, le-leb w.p 2000000 hp, le-leb w.q 2000000 hq, and-true)

    pub methods_1_2 : 1 ≤ w.m → w.m ≤ 2 → bad_reading w ≡ (ltb w.p w.q || ltb w.p 1)
    methods_1_2 l h = rw (ltb_not w.p 1) (whole (one_or_two w.m l h))

    sum_3 : w.m ≡ 3 → bad_reading w ≡ not (leb 1 (w.p + w.q) && leb (w.p + w.q) 2000000)
    unfolding bad_reading is_weight total_of
    sum_3 e = simp (e, le-leb w.p 2000000 hp, le-leb w.q 2000000 hq)

    pub method_3 : w.m ≡ 3 → bad_reading w ≡ (ltb (w.p + w.q) 1 || ltb 2000000 (w.p + w.q))
    method_3 e = sum_3 e ∙ outside 1 2000000 (w.p + w.q)

    pub method_4 : w.m ≡ 4 → bad_reading w ≡ leb w.p w.q
    unfolding bad_reading is_weight total_of
    method_4 e = simp (e, le-leb w.p 2000000 hp, le-leb w.q 2000000 hq, lift w.p w.q hp)

  pub no_method : ((1 ≤ w.m) × (w.m ≤ 4) → ⊥) → bad_reading w ≡ true
  unfolding bad_reading
  no_method h =
      let e : (leb 1 w.m && leb w.m 4) ≡ false = isnt _ (λ t. h (span 1 4 w.m t)) in
      simp e

-- ---- what a weighing without the condition has
module _ (w : Weighing) (fine : bad_reading w ≡ false) where
  clash : bad_reading w ≡ true → ⊥
  clash e = true≢false (sym e ∙ fine)

  pub p_most : w.p ≤ 2000000
  p_most = elim (dec_le w.p 2000000) as (λ d. w.p ≤ 2000000) [ yes k ↦ k | no k ↦ absurd (clash (p_over w (omega arith))) ]

  pub q_most : w.q ≤ 2000000
  q_most = elim (dec_le w.q 2000000) as (λ d. w.q ≤ 2000000) [ yes k ↦ k | no k ↦ absurd (clash (q_over w (omega arith))) ]

  -- the method is one of the four
  pub method_least : 1 ≤ w.m
  method_least = elim (dec_le 1 w.m) as (λ d. 1 ≤ w.m) [ yes k ↦ k | no k ↦ absurd (clash (no_method w (λ h. omega arith))) ]

  pub method_most : w.m ≤ 4
  method_most = elim (dec_le w.m 4) as (λ d. w.m ≤ 4) [ yes k ↦ k | no k ↦ absurd (clash (no_method w (λ h. omega arith))) ]

  -- q is a part of p in methods 1 and 2
  pub in_1_2 : w.m ≤ 2 → (w.q ≤ w.p) × (1 ≤ w.p)
  in_1_2 h =
      let e : (ltb w.p w.q || ltb w.p 1) ≡ false = sym (methods_1_2 w p_most q_most method_least h) ∙ fine in (
        ltb-false w.p w.q (not_left (ltb w.p w.q) (ltb w.p 1) e),
        ltb-false w.p 1 (not_right (ltb w.p w.q) (ltb w.p 1) e),
      )

  pub in_3 : w.m ≡ 3 → (1 ≤ w.p + w.q) × (w.p + w.q ≤ 2000000)
  in_3 e =
      span 1 2000000 (w.p + w.q)
      (not-false (leb 1 (w.p + w.q) && leb (w.p + w.q) 2000000) (sym (sum_3 w p_most q_most e) ∙ fine))

  pub in_4 : w.m ≡ 4 → w.q < w.p
  in_4 e = leb-false w.p w.q (sym (method_4 w p_most q_most e) ∙ fine)

  -- G by method
  abbrev pub IsTotal : ℕ → Type 0
  IsTotal r = (pos r ≡ total_of w) × (1 ≤ r) × (r ≤ 2000000)

  whole_total : (w.m ≡ 1) ⊎ (w.m ≡ 2) → pos w.p ≡ total_of w
  unfolding total_of
  whole_total (inl e) = simp e
  whole_total (inr e) = simp e

  pub total_1_2 : w.m ≤ 2 → IsTotal w.p
  total_1_2 h = (whole_total (one_or_two w.m method_least h), (in_1_2 h).1, p_most)

  pub total_3 : w.m ≡ 3 → IsTotal (w.p + w.q)
  unfolding total_of
  total_3 e = (simp e, (in_3 e).0, (in_3 e).1)

  pub total_4 : w.m ≡ 4 → IsTotal (w.p - w.q)
  unfolding total_of
  total_4 e =
      let h = in_4 e in
      let k = p_most in (
        simp e (omega (arith, zs, is_sub (is_nat w.p) (is_nat w.q))),
        omega arith,
        omega arith,
      )

-- number 3's condition, once G is known
pub n_test : (w : Weighing) (r : ℕ) → pos r ≡ total_of w → bad_part w ≡ ltb r w.n
unfolding bad_part
n_test w r e = simp (← e, leb-zero, ltb_not)

-- what a weighing without number 2's condition has
module _ (w : Weighing) (near : bad_distance w ≡ false) where
  distance : (leb 1 w.b && leb w.b 2000000) ≡ true
  unfolding bad_distance
  distance = not-false _ (not_right (not (is_arm w.a)) (not (leb 1 w.b && leb w.b 2000000)) near)

  pub b_most : w.b ≤ 2000000
  b_most = leb-true w.b 2000000 (right (leb 1 w.b) (leb w.b 2000000) distance)

  pub a_range : (negsuc 1999999 ≤ℤ w.a) × (w.a ≤ℤ pos 2000000)
  unfolding bad_distance
  a_range = arm_range w.a (not-false _ (not_left (not (is_arm w.a)) (not (leb 1 w.b && leb w.b 2000000)) near))
