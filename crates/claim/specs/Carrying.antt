-- The moment carried down the page (paper 02, card 3): however far it is carried, it is M with the row's rear load and all its
-- water at their arms. The hypotheses are the promises of the functions that `Terms::put_group` calls: `beside` starts afresh at a
-- rear load, `carried` adds the share of a step of water. And that something is carried to every row. Assumes nothing.
use Rattle.std.specs.Prelude.{◌≡◌, refl, [], ℕ, zero, suc, ◌+◌, ◌*◌, ◌≤◌}
use Rattle.std.specs.Borrow.{Bor}
use Rattle.std.proofs.Common.{add-mul, one-mul, zero-mul, mul-le-mul, add-one, arith, subst}
use Rattle.laws.specs.Sides.{value_of, times_of}
use Rattle.paper.specs.declared.Sheet.{Sheet}
use Rattle.paper.specs.Rows.{moment_beside}
use Rattle.balance.specs.declared.Balance.{Balance}
use Rattle.balance.specs.Balance.{plain, Bounded}
use Rattle.aboard.specs.declared.Arms.{Arms}
use Rattle.aboard.specs.declared.Laden.{Laden}
use Rattle.aboard.specs.Aboard.{laid_out, plus, Beside, Room}
use Rattle.aboard.proofs.Standing.{stands_laid, load_of, beside_none, beside_more}
use Rattle.aboard.proofs.Arms.beside.Reads as beside
use Rattle.aboard.proofs.Laden.carried.Reads as carried
use Rattle.group.specs.declared.Terms.{Terms}

-- what is carried to the k-th row beside a rear load, the first being the 0th
pub data Carrying (t : Terms) (b : Balance) (rear : ℕ) : ℕ → Laden → Type 0 where
  afresh : (κs : _) (a a' : Bor Arms) (x : Laden) → a.now ≡ t.front.arms → beside.Post κs (a, (b, (rear, tt))) x (a', (b, (rear, tt))) → Carrying t b rear 0 x
  row_more : {k : ℕ} {x : Laden} → Carrying t b rear k x
      → (y : Laden) → carried.Post tt (x, (t.share, tt)) y (x, (t.share, tt)) → Carrying t b rear (k + 1) y

-- the sheet in force
abbrev pub sheet_in : Terms → Sheet
sheet_in t = t.front.arms.force.sheet

module _ (t : Terms) (b : Balance) (rear : ℕ) where
  aboard : {k : ℕ} {x : Laden} → Carrying t b rear k x → Beside (sheet_in t) (plain b) rear (k * (sheet_in t).water.step) x
  aboard (afresh κs a a' x e h) =
      let BesideIn : Arms → Type 0 = λ y. Beside y.force.sheet (plain b) rear 0 x in
      rw (zero-mul (sheet_in t).water.step) (subst BesideIn e h.1)
  aboard (row_more {k} c y h) =
      let step = (sheet_in t).water.step in
      let e : (k + 1) * step ≡ k * step + step = omega (arith, add-mul k 1 step, one-mul step) in
      rw e (h.1 (sheet_in t) (plain b) rear (k * step) (aboard c) t.share_is)

  pub row_moment : {k : ℕ} {x : Laden} → Carrying t b rear k x → value_of x.moment ≡ moment_beside (sheet_in t) (plain b) rear (k * (sheet_in t).water.step)
  row_moment c = (aboard c).moment

-- ---- it is not empty

-- the glider with a rear load and no water
abbrev begun : Arms → Balance → ℕ → Laden
begun a b rear =
    plus (laid_out b.total b.moment a) (laid_out (2 * rear) (times_of (2 * rear) a.rear) a)

module _ (t : Terms) (b : Balance) (rear : ℕ) (bounded : Bounded 1024 b) (most : rear ≤ 500000) where
  abbrev arms : Arms
  arms = t.front.arms

  -- two weights at an arm
  at_most_lem : (n x : ℕ) → x ≤ n → b.total * x + 2 * rear * x ≤ 5000000 * n
  at_most_lem n x h =
      omega (arith, mul-le-mul {n₂ = 4000000} {m₂ = n} bounded.ranged.most h, mul-le-mul {n₁ = 2 * rear} {n₂ = 1000000} {m₂ = n} (omega arith) h)

  room-begun : Room 0 (begun arms b rear)
  room-begun =
      let turned : (x : ℕ) → x ≤ 2000000 → 2 * rear * x ≤ 2000000000000 = λ x h. mul-le-mul {n₂ = 1000000} {m₂ = 2000000} (omega arith) h in
      let fwd = arms.fwd_is.range in
      let safe = arms.safe_is.range in
      let seat = arms.rear_is.range in
      record {
        weight = omega (arith, bounded.ranged.most);
        moment = record { up = omega (arith, bounded.moment.up, turned arms.rear.up seat.up); down = omega (arith, bounded.moment.down, turned arms.rear.down seat.down) };
        forward = record { up = omega (arith, at_most_lem 2000000 arms.fwd.up fwd.up); down = omega (arith, at_most_lem 2000000 arms.fwd.down fwd.down) };
        safe = record { up = omega (arith, at_most_lem 40000000 arms.safe.up safe.up); down = omega (arith, at_most_lem 40000000 arms.safe.down safe.down) };
      }

  -- something is carried to each row
  pub every_row_carried : (k : ℕ) → (x : Laden) × Carrying t b rear k x
  every_row_carried zero =
      let a = arms in
      let lent : Bor Arms = record { ref_ptr = (0, 0); now = a } in
      (begun a b rear, afresh ([], tt) lent lent (begun a b rear) refl (room-begun, beside_none a.force.sheet (plain b) rear (laid_out b.total b.moment a) (laid_out (2 * rear) (times_of (2 * rear) a.rear) a) (stands_laid b.total b.moment a) (rw a.rear_is.value at (load_of rear a.rear a))))
  every_row_carried (suc k) =
      let c = every_row_carried k in
      let x = c.0 in
      rw (← add-one k) (plus x t.share, row_more c.1 (plus x t.share) (refl, λ s g r w h l. beside_more s g r w x t.share h l))
