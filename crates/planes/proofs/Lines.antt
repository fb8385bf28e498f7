-- Each of the paper's lines of limits, with the front load at some arm, is an order of two naturals that grow evenly with front
-- load and water: the integers of a line are taken apart into their two sides. Loads are whole grams and a balance is in half
-- grams, so that each gram of load counts twice. Assumes nothing.
use mathlib.Core.Path.{◌≡◌}
use mathlib.Core.Bool.{Bool, true, ◌||◌}
use Prim.Native.Nat.{ℕ, ◌+◌, ◌*◌}
use native.Mathlib.Omega.{arith}
use lib.Dec.{leb, eqb}
use lib.IntN.{ℤ, pos, ◌+ℤ◌, ◌*ℤ◌}
use lib.Signed.{le_z}
use Rattle.laws.specs.declared.Sides.{Sides}
use Rattle.laws.specs.Tests.{left, right}
use Rattle.laws.specs.Z.{Is, up, dn, is_nat, is_int, is_add, is_mul, same, le_z_test}
use Rattle.paper.specs.declared.Sheet.{Sheet}
use Rattle.paper.specs.Units.{half_grams}
use Rattle.paper.specs.Record.{Balance, with}
use Rattle.paper.specs.Rows.{laden, total_beside, moment_beside, at_most, lines, all, keeps_at}

-- the integers that the lines are made of, each by two sides
pub record Parts : Type 0 where
  pub total : Sides
  pub moment : Sides
  pub non_lifting : Sides
  pub fwd : Sides
  pub aft : Sides
  pub front : Sides
  pub rear : Sides
  pub water : Sides

-- they are those of a sheet, a front arm and a balance
pub record PartsOf (s : Sheet) (arm : ℤ) (b : Balance) (q : Parts) : Type 0 where
  pub total : Is b.total q.total.up q.total.down
  pub moment : Is b.moment q.moment.up q.moment.down
  pub non_lifting : Is b.non_lifting q.non_lifting.up q.non_lifting.down
  pub fwd : Is s.fwd q.fwd.up q.fwd.down
  pub aft : Is s.aft q.aft.up q.aft.down
  pub front : Is arm q.front.up q.front.down
  pub rear : Is s.rear.arm q.rear.up q.rear.down
  pub water : Is s.water.arm q.water.up q.water.down

-- the sides of those integers
abbrev pub sides : ℤ → Sides
sides z = record { up = up z; down = dn z }

abbrev pub parts_of : Sheet → ℤ → Balance → Parts
parts_of s arm b =
    record {
      total = sides b.total;
      moment = sides b.moment;
      non_lifting = sides b.non_lifting;
      fwd = sides s.fwd;
      aft = sides s.aft;
      front = sides arm;
      rear = sides s.rear.arm;
      water = sides s.water.arm;
    }

pub parts_of_lem : (s : Sheet) (arm : ℤ) (b : Balance) → PartsOf s arm b (parts_of s arm b)
parts_of_lem s arm b =
    record {
      total = is_int b.total;
      moment = is_int b.moment;
      non_lifting = is_int b.non_lifting;
      fwd = is_int s.fwd;
      aft = is_int s.aft;
      front = is_int arm;
      rear = is_int s.rear.arm;
      water = is_int s.water.arm;
    }

module _ (q : Parts) (r p v : ℕ) where
  -- what counts up of the whole weight, in half grams
  abbrev pub halves : ℕ
  halves = q.total.up + 2 * (p + r + v)

  -- what turns aft, and what turns forward
  abbrev pub aftward : ℕ
  aftward = q.moment.up + 2 * (p * q.front.up + r * q.rear.up + v * q.water.up)

  abbrev pub forward : ℕ
  forward = q.moment.down + 2 * (p * q.front.down + r * q.rear.down + v * q.water.down)

-- 20 times the safe aft limit, which is 5 % of the range inside AFT
abbrev pub safe_up : Parts → ℕ
safe_up q = 19 * q.aft.up + q.fwd.up

abbrev pub safe_down : Parts → ℕ
safe_down q = 19 * q.aft.down + q.fwd.down

-- the two ends of FWD's line, and of the safe aft limit's
module _ (q : Parts) (r p v : ℕ) where
  abbrev pub fwd_low : ℕ
  fwd_low = forward q r p v + q.fwd.up * halves q r p v + q.fwd.down * q.total.down

  abbrev pub fwd_high : ℕ
  fwd_high = aftward q r p v + q.fwd.down * halves q r p v + q.fwd.up * q.total.down

  abbrev pub aft_low : ℕ
  aft_low = 20 * aftward q r p v + safe_down q * halves q r p v + safe_up q * q.total.down

  abbrev pub aft_high : ℕ
  aft_high = 20 * forward q r p v + safe_up q * halves q r p v + safe_down q * q.total.down

-- ---- what is aboard

pub half_is : (n : ℕ) → Is (half_grams (pos n)) (2 * n) 0
unfolding half_grams
half_is n = let t = is_mul (is_nat 2) (is_nat n) in record { is = omega (arith, t.is) }

-- a load at an arm
pub turned_is : (n : ℕ) {arm : ℤ} {u d : ℕ} → Is arm u d → Is (half_grams (pos n) *ℤ arm) (2 * (n * u)) (2 * (n * d))
turned_is n h = let t = is_mul (half_is n) h in record { is = omega (arith, t.is) }

module _ (s : Sheet) (arm : ℤ) (b : Balance) (q : Parts) (o : PartsOf s arm b q) (r p v : ℕ) where
  total_is : Is (laden s arm b r p v).total (halves q r p v) q.total.down
  unfolding laden with
  total_is =
      let t = is_add (is_add (is_add o.total (half_is p)) (half_is r)) (half_is v) in record { is = omega (arith, t.is) }

  moment_is : Is (laden s arm b r p v).moment (aftward q r p v) (forward q r p v)
  unfolding laden with
  moment_is =
      let t =
      is_add (is_add (is_add o.moment (turned_is p o.front)) (turned_is r o.rear)) (turned_is v o.water) in
      record { is = omega (arith, t.is) }

  part_is : Is (laden s arm b r p v).non_lifting (q.non_lifting.up + 2 * (p + r)) q.non_lifting.down
  unfolding laden with
  part_is =
      let t = is_add (is_add (is_add o.non_lifting (half_is p)) (half_is r)) (is_nat 0) in
      record { is = omega (arith, t.is) }

-- ---- T, S and the non-lifting weight with all loads aboard, as the paper has them, in half grams

module _ (s : Sheet) (arm : ℤ) (b : Balance) (r p v : ℕ) where
  -- T = G + 2·(P + r + v)
  pub laden-total : (laden s arm b r p v).total ≡ b.total +ℤ pos 2 *ℤ (pos p +ℤ pos r +ℤ pos v)
  laden-total =
      same (total_is s arm b (parts_of s arm b) (parts_of_lem s arm b) r p v)
      (is_add (is_int b.total) (is_mul (is_nat 2) (is_add (is_add (is_nat p) (is_nat r)) (is_nat v)))) (omega arith)

  -- S = M + 2·(P·front arm + r·rear arm + v·water arm)
  pub laden_moment : (laden s arm b r p v).moment ≡ b.moment +ℤ pos 2 *ℤ (pos p *ℤ arm +ℤ pos r *ℤ s.rear.arm +ℤ pos v *ℤ s.water.arm)
  laden_moment =
      let front = is_mul (is_nat p) (is_int arm) in
      let rear = is_mul (is_nat r) (is_int s.rear.arm) in
      let water = is_mul (is_nat v) (is_int s.water.arm) in
      same (moment_is s arm b (parts_of s arm b) (parts_of_lem s arm b) r p v)
      (is_add (is_int b.moment) (is_mul (is_nat 2) (is_add (is_add front rear) water))) (omega arith)

  -- n + 2·(P + r): water never counts
  pub laden-part : (laden s arm b r p v).non_lifting ≡ b.non_lifting +ℤ pos 2 *ℤ (pos p +ℤ pos r)
  laden-part =
      same (part_is s arm b (parts_of s arm b) (parts_of_lem s arm b) r p v)
      (is_add (is_int b.non_lifting) (is_mul (is_nat 2) (is_add (is_nat p) (is_nat r)))) (omega arith)

-- ---- the same as the front load on top of what is aboard beside it

beside_total : (b : Balance) (r v : ℕ) → Is (total_beside b r v) (up b.total + 2 * (r + v)) (dn b.total)
unfolding total_beside
beside_total b r v = let t = is_add (is_add (is_int b.total) (half_is r)) (half_is v) in record { is = omega (arith, t.is) }

beside_moment : (s : Sheet) (b : Balance) (r v : ℕ) → Is (moment_beside s b r v) (up b.moment + 2 * (r * up s.rear.arm + v * up s.water.arm)) (dn b.moment + 2 * (r * dn s.rear.arm + v * dn s.water.arm))
unfolding moment_beside
beside_moment s b r v =
    let t =
    is_add (is_add (is_int b.moment) (turned_is r (is_int s.rear.arm))) (turned_is v (is_int s.water.arm)) in
    record { is = omega (arith, t.is) }

module _ (s : Sheet) (arm : ℤ) (b : Balance) (r p v : ℕ) where
  pub laden_on_total : (laden s arm b r p v).total ≡ total_beside b r v +ℤ half_grams (pos p)
  laden_on_total =
      same (total_is s arm b (parts_of s arm b) (parts_of_lem s arm b) r p v) (is_add (beside_total b r v) (half_is p)) (omega arith)

  pub laden_on_part : (laden s arm b r p v).non_lifting ≡ b.non_lifting +ℤ half_grams (pos r) +ℤ half_grams (pos p)
  laden_on_part =
      same (part_is s arm b (parts_of s arm b) (parts_of_lem s arm b) r p v)
      (is_add (is_add (is_int b.non_lifting) (half_is r)) (half_is p)) (omega arith)

  pub laden_on_moment : (laden s arm b r p v).moment ≡ moment_beside s b r v +ℤ half_grams (pos p) *ℤ arm
  laden_on_moment =
      same (moment_is s arm b (parts_of s arm b) (parts_of_lem s arm b) r p v)
      (is_add (beside_moment s b r v) (turned_is p (is_int arm))) (omega arith)

-- so much more water
pub beside_more-total : (b : Balance) (r w v : ℕ) → total_beside b r (w + v) ≡ total_beside b r w +ℤ half_grams (pos v)
beside_more-total b r w v = same (beside_total b r (w + v)) (is_add (beside_total b r w) (half_is v)) (omega arith)

pub beside_more_moment : (s : Sheet) (b : Balance) (r w v : ℕ) → moment_beside s b r (w + v) ≡ moment_beside s b r w +ℤ half_grams (pos v) *ℤ s.water.arm
beside_more_moment s b r w v =
    same (beside_moment s b r (w + v)) (is_add (beside_moment s b r w) (turned_is v (is_int s.water.arm))) (omega arith)

-- ---- the lines

pub at_most_lem : {z : ℤ} {u d : ℕ} → Is z u d → (most : ℕ) → at_most most z ≡ leb u (2 * most + d)
unfolding at_most
at_most_lem {u = u} {d} h most = le_z_test h (half_is most) u (2 * most + d) (omega arith)

module _ (s : Sheet) (arm : ℤ) (b : Balance) (q : Parts) (o : PartsOf s arm b q) (r p v : ℕ) where
  pub weight_line : (most : ℕ) → at_most most (laden s arm b r p v).total ≡ leb (halves q r p v) (2 * most + q.total.down)
  weight_line most = at_most_lem (total_is s arm b q o r p v) most

  pub part-line : (most : ℕ) → at_most most (laden s arm b r p v).non_lifting ≡ leb (q.non_lifting.up + 2 * (p + r)) (2 * most + q.non_lifting.down)
  part-line most = at_most_lem (part_is s arm b q o r p v) most

  pub fwd_line_lem : le_z (s.fwd *ℤ (laden s arm b r p v).total) (laden s arm b r p v).moment ≡ leb (fwd_low q r p v) (fwd_high q r p v)
  fwd_line_lem = le_z_test (is_mul o.fwd (total_is s arm b q o r p v)) (moment_is s arm b q o r p v) (fwd_low q r p v) (fwd_high q r p v) (omega arith)

  pub aft_line_lem : le_z (pos 20 *ℤ (laden s arm b r p v).moment) ((pos 19 *ℤ s.aft +ℤ s.fwd) *ℤ (laden s arm b r p v).total) ≡ leb (aft_low q r p v) (aft_high q r p v)
  aft_line_lem =
      le_z_test (is_mul (is_nat 20) (moment_is s arm b q o r p v)) (is_mul (is_add (is_mul (is_nat 19) o.aft) o.fwd) (total_is s arm b q o r p v)) (aft_low q r p v) (aft_high q r p v) (omega arith)

-- ---- the lines by their names, of a load at an arm

module _ (s : Sheet) (arm : ℤ) (b : Balance) (r p v : ℕ) where
  abbrev pub dry_line : Bool
  dry_line = at_most s.dry (laden s arm b r p 0).total

  abbrev pub wet_line : Bool
  wet_line = at_most s.wet (laden s arm b r p v).total

  abbrev pub nlp_line : Bool
  nlp_line = eqb s.nlp 0 || at_most s.nlp (laden s arm b r p v).non_lifting

  abbrev pub fwd_line : Bool
  fwd_line = le_z (s.fwd *ℤ (laden s arm b r p v).total) (laden s arm b r p v).moment

  abbrev pub aft_line : Bool
  aft_line = le_z (pos 20 *ℤ (laden s arm b r p v).moment) ((pos 19 *ℤ s.aft +ℤ s.fwd) *ℤ (laden s arm b r p v).total)

-- every line holds
pub record Hold (s : Sheet) (arm : ℤ) (b : Balance) (r p v : ℕ) : Type 0 where
  pub seat : leb 1 p ≡ true
  pub dry : dry_line s arm b r p v ≡ true
  pub wet : wet_line s arm b r p v ≡ true
  pub nlp : nlp_line s arm b r p v ≡ true
  pub fwd : fwd_line s arm b r p v ≡ true
  pub aft : aft_line s arm b r p v ≡ true

pub lines_hold : (s : Sheet) (arm : ℤ) (b : Balance) (r p v : ℕ) → keeps_at s arm b r p v ≡ true → Hold s arm b r p v
unfolding keeps_at lines all
lines_hold s arm b r p v e =
    let e₁ = right (leb 1 p) _ e in
    let e₂ = right (dry_line s arm b r p v) _ e₁ in
    let e₃ = right (wet_line s arm b r p v) _ e₂ in
    let e₄ = right (nlp_line s arm b r p v) _ e₃ in
    record {
      seat = left (leb 1 p) _ e;
      dry = left (dry_line s arm b r p v) _ e₁;
      wet = left (wet_line s arm b r p v) _ e₂;
      nlp = left (nlp_line s arm b r p v) _ e₃;
      fwd = left (fwd_line s arm b r p v) _ e₄;
      aft = left (aft_line s arm b r p v) true (right (fwd_line s arm b r p v) _ e₄);
    }

pub hold_lines : (s : Sheet) (arm : ℤ) (b : Balance) (r p v : ℕ) → Hold s arm b r p v → keeps_at s arm b r p v ≡ true
unfolding keeps_at lines all
hold_lines s arm b r p v h = rw (h.seat, h.dry, h.wet, h.nlp, h.fwd, h.aft)
