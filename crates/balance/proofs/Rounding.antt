-- The empty centre of gravity: the definition gives the one unit x with 2M - G < 2Gx ≤ 2M + G, and the code's quotient is the
-- definition's. Assumes nothing.
use mathlib.Core.Path.{◌≡◌, refl, ◌∙◌}
use Prim.Native.Nat.{ℕ, ◌*◌, ◌<◌}
use native.Mathlib.Omega.{arith}
use lib.IntN.{ℤ, pos, negsuc, ◌+ℤ◌, ◌-ℤ◌, ◌*ℤ◌}
use lib.Signed.{◌≤ℤ◌, ◌<ℤ◌, shr_z}
use Rattle.std.specs.Int.{int_div_euclid}
use Rattle.laws.specs.Z.{zs, is_nat, is_int, is_add, is_sub, is_mul}
use Rattle.laws.specs.Floor.{Step, floor_step, one_step}
use Rattle.laws.specs.Sides.{value_of}
use Rattle.paper.specs.Record.{Balance, centre_of}
use Rattle.balance.specs.declared.Balance.{Balance as Carried}
use Rattle.balance.specs.Balance.{plain}

-- x is nearest to M/G, a half going towards the tail
pub record Nearest (M : ℤ) (G : ℕ) (x : ℤ) : Type 0 where
  pub above : (pos 2 *ℤ M -ℤ pos G) <ℤ (pos (2 * G) *ℤ x)
  pub upto : (pos (2 * G) *ℤ x) ≤ℤ (pos 2 *ℤ M +ℤ pos G)

-- a balance whose G is known
abbrev pub with : ℤ → ℕ → ℤ → Balance
with M G n = record { total = pos G; moment = M; non_lifting = n }

module _ (M : ℤ) (G : ℕ) (n : ℤ) (some : 0 < G) where
  floor : Step (2 * G) (centre_of (with M G n)) (pos 2 *ℤ M +ℤ pos G)
  unfolding centre_of
  floor = floor_step (2 * G) (pos 2 *ℤ M +ℤ pos G) (omega arith)

  -- the centre is nearest
  pub centre_nearest : Nearest M G (centre_of (with M G n))
  centre_nearest =
      let x = centre_of (with M G n) in
      let h = floor in
      record {
        above =
            omega (
              arith,
              zs,
              is_sub (is_mul (is_nat 2) (is_int M)) (is_nat G),
              is_add (is_mul (is_nat 2) (is_int M)) (is_nat G),
              is_mul (is_nat (2 * G)) (is_int x),
              is_add (is_mul (is_nat (2 * G)) (is_int x)) (is_nat (2 * G)),
            );
        upto = h.from;
      }

  -- and what is nearest is the centre
  pub nearest_centre : (x : ℤ) → Nearest M G x → x ≡ centre_of (with M G n)
  nearest_centre x h =
      let step : Step (2 * G) x (pos 2 *ℤ M +ℤ pos G) =
      record {
        from = h.upto;
        below =
            omega (
              arith,
              zs,
              is_sub (is_mul (is_nat 2) (is_int M)) (is_nat G),
              is_add (is_mul (is_nat 2) (is_int M)) (is_nat G),
              is_mul (is_nat (2 * G)) (is_int x),
              is_add (is_mul (is_nat (2 * G)) (is_int x)) (is_nat (2 * G)),
            );
      } in
      one_step (2 * G) x (centre_of (with M G n)) (pos 2 *ℤ M +ℤ pos G) step floor

-- the quotient that the code takes rounds down too
rounded_down : (z : ℤ) (n : ℕ) → int_div_euclid z (pos n) ≡ shr_z z n
rounded_down (pos a) n = refl
rounded_down (negsuc a) n = refl

pub quotient : (b : Carried) (r x y : ℤ) → r ≡ int_div_euclid x y → x ≡ pos 2 *ℤ value_of b.moment +ℤ pos b.total → y ≡ pos (2 * b.total) → r ≡ centre_of (plain b)
unfolding centre_of
quotient b r x y q e f = q ∙ rw (e, f) (rounded_down (pos 2 *ℤ value_of b.moment +ℤ pos b.total) (2 * b.total))
