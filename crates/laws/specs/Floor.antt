-- The quotient of an integer by a natural, rounded down: `shr_z` of `lib.Signed`. It is the one x with n * x ≤ z < n * x + n.
-- Assumes nothing.
use Rattle.std.specs.Prelude.{◌≡◌, ℕ, suc, ◌+◌, ◌*◌, ◌/◌, ◌≤◌, ◌<◌, ℤ, pos, negsuc, ◌+ℤ◌, ◌*ℤ◌, ◌≤ℤ◌, ◌<ℤ◌}
use Rattle.std.proofs.Common.{div-add-mod', mod-lt, arith}
use Rattle.std.proofs.Math.Nat.{lt_of_mul-lt-mul_left}
use Rattle.std.specs.Int.Signed.{shr_z}
use Rattle.laws.specs.Z.{up, dn, zs, is_nat, is_int, is_add, is_mul}

-- z is in the step of n that begins at n * x
pub record Step (n : ℕ) (x z : ℤ) : Type 0 where
  pub from : (pos n *ℤ x) ≤ℤ z
  pub below : z <ℤ (pos n *ℤ x +ℤ pos n)

pub floor_step : (n : ℕ) (z : ℤ) → 0 < n → Step n (shr_z z n) z
floor_step n (pos a) h = record { from = omega (arith, zs, div-add-mod' a n, mod-lt a h); below = omega (arith, zs, div-add-mod' a n, mod-lt a h) }
floor_step n (negsuc a) h = record { from = omega (arith, zs, is_mul (is_nat n) (is_int (negsuc (a / n))), div-add-mod' a n, mod-lt a h); below = omega (arith, zs, is_add (is_mul (is_nat n) (is_int (negsuc (a / n)))) (is_nat n), div-add-mod' a n, mod-lt a h) }

cancel : (n u v : ℕ) → n * u < n * v + n → u ≤ v
cancel n u v h = let k : u < suc v = lt_of_mul-lt-mul_left n (omega arith) in omega arith

pub one_step : (n : ℕ) (x y z : ℤ) → Step n x z → Step n y z → x ≡ y
one_step n x y z p q =
    let k : up x + dn y ≤ up y + dn x = cancel n _ _ (omega (arith, zs, is_mul (is_nat n) (is_int x), is_add (is_mul (is_nat n) (is_int y)) (is_nat n))) in
    let l : up y + dn x ≤ up x + dn y = cancel n _ _ (omega (arith, zs, is_mul (is_nat n) (is_int y), is_add (is_mul (is_nat n) (is_int x)) (is_nat n))) in
    omega (arith, zs)
