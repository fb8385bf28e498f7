-- A signed number by two sides: what it is, sums, differences and multiples, and bounds of the sides. Assumes nothing.
use Rattle.std.specs.Prelude.{◌≡◌, ℕ, suc, ◌+◌, ◌*◌, ◌^◌, ◌≤◌, ◌<◌, ℤ, pos, negsuc, ◌+ℤ◌, ◌-ℤ◌, ◌*ℤ◌, ◌≤ℤ◌}
use Rattle.std.proofs.Common.{mul-le-mul, arith}
use Rattle.laws.specs.declared.Sides.{Sides}
use Rattle.laws.specs.Z.{up as above, dn as below, Is, is_nat, is_int, is_add, is_sub, is_mul, same, hyp_le, one_side}

-- the one less the other
abbrev pub value_of : Sides → ℤ
value_of x = pos x.up -ℤ pos x.down

-- a number's own sides, of which one is 0
abbrev pub sides_of : ℤ → Sides
sides_of z = record { up = above z; down = below z }

abbrev pub sum_of : Sides → Sides → Sides
sum_of x y = record { up = x.up + y.up; down = x.down + y.down }

abbrev pub difference_of : Sides → Sides → Sides
difference_of x y = record { up = x.up + y.down; down = x.down + y.up }

abbrev pub times_of : ℕ → Sides → Sides
times_of n x = record { up = n * x.up; down = n * x.down }

-- each side fits in a word
abbrev pub Fits : Sides → Type 0
Fits x = (x.up < 2 ^ 64) × (x.down < 2 ^ 64)

-- each side is at most n
pub record Below (n : ℕ) (x : Sides) : Type 0 where
  pub up : x.up ≤ n
  pub down : x.down ≤ n

-- ---- what they are

pub is_value : (x : Sides) → Is (value_of x) x.up x.down
is_value x = let h = is_sub (is_nat x.up) (is_nat x.down) in record { is = omega (arith, h.is) }

pub is_by : (x : Sides) {z : ℤ} → value_of x ≡ z → Is z x.up x.down
is_by x e = rw e at (is_value x)

pub value_sides : (z : ℤ) → value_of (sides_of z) ≡ z
value_sides z = same (is_value (sides_of z)) (is_int z) (omega arith)

pub value_sum : (x y : Sides) {a b : ℤ} → value_of x ≡ a → value_of y ≡ b → value_of (sum_of x y) ≡ a +ℤ b
value_sum x y e f = same (is_value (sum_of x y)) (is_add (is_by x e) (is_by y f)) (omega arith)

pub value_difference : (x y : Sides) {a b : ℤ} → value_of x ≡ a → value_of y ≡ b → value_of (difference_of x y) ≡ a -ℤ b
value_difference x y e f = same (is_value (difference_of x y)) (is_sub (is_by x e) (is_by y f)) (omega arith)

pub value_times : (n : ℕ) (x : Sides) {a : ℤ} → value_of x ≡ a → value_of (times_of n x) ≡ pos n *ℤ a
value_times n x e = same (is_value (times_of n x)) (is_mul (is_nat n) (is_by x e)) (omega arith)

-- ---- bounds

pub fits_below : (n : ℕ) (x : Sides) → n < 2 ^ 64 → Below n x → Fits x
fits_below n x k h = (omega arith, omega arith)

pub below_more : {m n : ℕ} (x : Sides) → m ≤ n → Below m x → Below n x
below_more x k h = record { up = omega arith; down = omega arith }

-- of a number from -k to k
pub below_sides : {m n : ℕ} (k : ℕ) (z : ℤ) → negsuc m ≤ℤ z → z ≤ℤ pos n → suc m ≤ k → n ≤ k → Below k (sides_of z)
below_sides k z l h c d =
    record { up = omega (arith, hyp_le l, hyp_le h, one_side z); down = omega (arith, hyp_le l, hyp_le h, one_side z) }

pub below_sum : {m n : ℕ} (x y : Sides) → Below m x → Below n y → Below (m + n) (sum_of x y)
below_sum x y h k = record { up = omega arith; down = omega arith }

pub below_difference : {m n : ℕ} (x y : Sides) → Below m x → Below n y → Below (m + n) (difference_of x y)
below_difference x y h k = record { up = omega arith; down = omega arith }

pub below_times : {m n : ℕ} (k : ℕ) (x : Sides) → k ≤ m → Below n x → Below (m * n) (times_of k x)
below_times k x l h = record { up = mul-le-mul l h.up; down = mul-le-mul l h.down }
