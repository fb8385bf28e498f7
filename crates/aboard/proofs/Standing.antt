-- What is carried with a load more stands for the sums of both weights and both moments, since each line of it is linear.
-- Assumes nothing.
use mathlib.Core.Path.{◌≡◌, refl, sym, ◌∙◌}
use Prim.Native.Nat.{ℕ, ◌+◌, ◌*◌, ◌≤◌}
use native.Mathlib.Omega.{arith}
use lib.IntN.{ℤ, pos, ◌+ℤ◌, ◌*ℤ◌}
use Rattle.laws.specs.declared.Sides.{Sides}
use Rattle.laws.specs.Z.{is_nat, is_int, is_add, is_mul, same}
use Rattle.laws.specs.Sides.{value_of, sides_of, sum_of, times_of, is_value, is_by, value_sides, value_sum, below_sides}
use Rattle.paper.specs.declared.Sheet.{Sheet}
use Rattle.paper.specs.Units.{half_grams}
use Rattle.paper.specs.Record.{Balance}
use Rattle.paper.specs.Rows.{total_beside, moment_beside}
use Rattle.paper.proofs.Units.{IsArm}
use Rattle.planes.proofs.Lines.{half_is, turned_is, beside_more-total, beside_more_moment}
use Rattle.aboard.specs.declared.Arms.{Arms}
use Rattle.aboard.specs.declared.Laden.{Laden}
use Rattle.aboard.specs.Sides.{Sided, safe_arm}
use Rattle.aboard.specs.Aboard.{laid_out, plus, scaled, Stands, Beside, LoadOf, Room, Share}

-- an arm by its own sides
pub sided : (z : ℤ) → IsArm z → Sided 2000000 z (sides_of z)
sided z h = record { value = value_sides z; range = below_sides 2000000 z h.0 h.1 (omega arith) (omega arith) }

-- the moment of a sum of weights at an arm
line_sum : (x y : Sides) (arm t u : ℤ) → value_of x ≡ arm *ℤ t → value_of y ≡ arm *ℤ u → value_of (sum_of x y) ≡ arm *ℤ (t +ℤ u)
line_sum x y arm t u e f =
    same (is_value (sum_of x y)) (is_mul (is_int arm) (is_add (is_int t) (is_int u)))
    (omega (arith, (is_mul (is_int arm) (is_int t)), (is_mul (is_int arm) (is_int u)), is_by x e, is_by y f))

pub stands-plus : (s : Sheet) {t u m n : ℤ} (x y : Laden) → Stands s t m x → Stands s u n y → Stands s (t +ℤ u) (m +ℤ n) (plus x y)
stands-plus s {t} {u} x y h k =
    record {
      weight = same (is_nat (x.weight + y.weight)) (is_add (rw h.weight at (is_nat x.weight)) (rw k.weight at (is_nat y.weight))) (omega arith);
      moment = value_sum x.moment y.moment h.moment k.moment;
      forward = line_sum x.forward y.forward s.fwd t u h.forward k.forward;
      safe = line_sum x.safe y.safe (safe_arm s) t u h.safe k.safe;
    }

-- ---- a load

-- an arm at a weight
value-times : (n : ℕ) (x : Sides) {z : ℤ} → value_of x ≡ z → value_of (times_of n x) ≡ z *ℤ pos n
value-times n x e = same (is_value (times_of n x)) (is_mul (is_by x e) (is_nat n)) (omega arith)

pub stands_laid : (weight : ℕ) (moment : Sides) (a : Arms) → Stands a.force.sheet (pos weight) (value_of moment) (laid_out weight moment a)
stands_laid weight moment a =
    record {
      weight = refl;
      moment = refl;
      forward = value-times weight a.fwd a.fwd_is.value;
      safe = value-times weight a.safe a.safe_is.value;
    }

halves : (n : ℕ) → pos (2 * n) ≡ half_grams (pos n)
halves n = same (is_nat (2 * n)) (half_is n) (omega arith)

pub load_of : (n : ℕ) (arm : Sides) (a : Arms) → LoadOf a.force.sheet n (value_of arm) (laid_out (2 * n) (times_of (2 * n) arm) a)
load_of n arm a =
    let m : value_of (times_of (2 * n) arm) ≡ half_grams (pos n) *ℤ value_of arm = same (is_value (times_of (2 * n) arm)) (turned_is n (is_value arm)) (omega arith) in
    rw (halves n, m) at (stands_laid (2 * n) (times_of (2 * n) arm) a)

-- k loads alike are one of k times the grams
pub load-scaled : (s : Sheet) (k n : ℕ) (arm : ℤ) (x : Laden) → LoadOf s n arm x → LoadOf s (k * n) arm (scaled k x)
load-scaled s k n arm x h =
    let all = half_is (k * n) in
    let one = half_is n in
    let turned : half_grams (pos (k * n)) *ℤ arm ≡ half_grams (pos n) *ℤ arm *ℤ pos k = same (is_mul all (is_int arm)) (is_mul (is_mul one (is_int arm)) (is_nat k)) (omega arith) in
    let line : (z : ℤ) → z *ℤ half_grams (pos (k * n)) ≡ z *ℤ half_grams (pos n) *ℤ pos k = λ z. same (is_mul (is_int z) all) (is_mul (is_mul (is_int z) one) (is_nat k)) (omega arith) in
    let weight : half_grams (pos n) *ℤ pos k ≡ half_grams (pos (k * n)) = same (is_mul one (is_nat k)) all (omega arith) in
    record {
      weight = same (is_nat (k * x.weight)) (is_mul (rw h.weight at (is_nat x.weight)) (is_nat k)) (omega arith) ∙ weight;
      moment = value-times k x.moment h.moment ∙ sym turned;
      forward = value-times k x.forward h.forward ∙ sym (line s.fwd);
      safe = value-times k x.safe h.safe ∙ sym (line (safe_arm s));
    }

-- ---- the rows

-- no water
pub beside_none : (s : Sheet) (b : Balance) (r : ℕ) (x y : Laden) → Stands s b.total b.moment x → LoadOf s r s.rear.arm y → Beside s b r 0 (plus x y)
unfolding total_beside moment_beside
beside_none s b r x y h k =
    let t : total_beside b r 0 ≡ b.total +ℤ half_grams (pos r) = same (is_add (is_add (is_int b.total) (half_is r)) (half_is 0)) (is_add (is_int b.total) (half_is r)) (omega arith) in
    let m : moment_beside s b r 0 ≡ b.moment +ℤ half_grams (pos r) *ℤ s.rear.arm =
    let turned = turned_is r (is_int s.rear.arm) in
    same (is_add (is_add (is_int b.moment) turned) (turned_is 0 (is_int s.water.arm))) (is_add (is_int b.moment) turned) (omega arith) in
    rw (t, m) (stands-plus s x y h k)

-- the share of a step of water more
pub beside_more : (s : Sheet) (b : Balance) (r w : ℕ) (x y : Laden) → Beside s b r w x → LoadOf s s.water.step s.water.arm y → Beside s b r (w + s.water.step) (plus x y)
beside_more s b r w x y h k =
    rw (beside_more-total b r w s.water.step, beside_more_moment s b r w s.water.step) (stands-plus s x y h k)

-- ---- bounds

-- a load more
pub room-more : (k : ℕ) (x y z : Laden) → z ≡ plus x y → Room k x → Share y → Room (k + 1) z
room-more k x y z e h l =
    rw e
    record {
      weight = omega (arith, h.weight, l.weight);
      moment = record { up = omega (arith, h.moment.up, l.moment.up); down = omega (arith, h.moment.down, l.moment.down) };
      forward = record { up = omega (arith, h.forward.up, l.forward.up); down = omega (arith, h.forward.down, l.forward.down) };
      safe = record { up = omega (arith, h.safe.up, l.safe.up); down = omega (arith, h.safe.down, l.safe.down) };
    }

pub room_least : (k n : ℕ) (x : Laden) → k ≤ n → Room k x → Room n x
room_least k n x m h =
    record {
      weight = omega (arith, h.weight);
      moment = record { up = omega (arith, h.moment.up); down = omega (arith, h.moment.down) };
      forward = record { up = omega (arith, h.forward.up); down = omega (arith, h.forward.down) };
      safe = record { up = omega (arith, h.safe.up); down = omega (arith, h.safe.down) };
    }

pub share_room : (x : Laden) → Share x → Room 256 x
share_room x h =
    record {
      weight = omega (arith, h.weight);
      moment = record { up = omega (arith, h.moment.up); down = omega (arith, h.moment.down) };
      forward = record { up = omega (arith, h.forward.up); down = omega (arith, h.forward.down) };
      safe = record { up = omega (arith, h.safe.up); down = omega (arith, h.safe.down) };
    }
