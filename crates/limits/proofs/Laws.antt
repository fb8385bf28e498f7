-- The paper's lines for a front load of k steps are orders of what the code carries: what is aboard with k steps more stands for
-- the whole weight and moment, and a line is one order of its sides. Assumes nothing.
use mathlib.Core.Path.{◌≡◌, refl, sym, ◌∙◌}
use mathlib.Core.Bool.{Bool, true, ◌&&◌, ◌||◌, and_assoc, and-true}
use Prim.Native.Nat.{ℕ, zero, suc, ◌+◌, ◌*◌, ◌/◌, ◌<◌, max}
use native.Mathlib.Nat.{le-div_iff_mul-le}
use native.Mathlib.Omega.{arith}
use lib.Dec.{leb, eqb}
use lib.IntN.{ℤ, pos, ◌+ℤ◌, ◌*ℤ◌}
use lib.Signed.{le_z}
use Rattle.std.specs.Int.{div_ceil}
use borrow.Author.Tests.{leb-true, le-leb, ne_eqb}
use Rattle.laws.specs.declared.Sides.{Sides}
use Rattle.laws.specs.Division.{ceil}
use Rattle.laws.specs.Tests.{same, both, left, right, leb_by, in_span, span_lo, span_hi}
use Rattle.laws.specs.Z.{Is, is_nat, is_add, is_mul, le_z_test}
use Rattle.laws.specs.Sides.{is_by}
use Rattle.paper.specs.declared.Sheet.{Sheet}
use Rattle.paper.specs.declared.Seat.{Seat}
use Rattle.paper.specs.Units.{half_grams}
use Rattle.paper.specs.Record.{Balance}
use Rattle.paper.specs.Rows.{laden, at_most}
use Rattle.planes.specs.Plane.{kept_at}
use Rattle.planes.proofs.Lines.{at_most_lem, laden_on_total, laden_on_moment, laden_on_part, dry_line, wet_line, nlp_line, fwd_line, aft_line}
use Rattle.planes.proofs.Arms.{last, kept_is}
use Rattle.aboard.specs.declared.Laden.{Laden}
use Rattle.aboard.specs.Sides.{safe_arm}
use Rattle.aboard.specs.Aboard.{plus, scaled, Stands, Beside, LoadOf}
use Rattle.aboard.proofs.Standing.{stands-plus, load-scaled}
use Rattle.limits.specs.Seats.{forward_margin, safe_margin, weight_test, fwd_test, aft_test, in_seat, is_load}

-- no half grams are no grams
no_halves : (n : ℕ) → eqb n 0 ≡ eqb (2 * n) 0
no_halves zero = refl
no_halves (suc n) = ne_eqb (suc n) 0 (omega arith) ∙ sym (ne_eqb (2 * suc n) 0 (omega arith))

-- ---- the steps of the seat: from the least number of them that makes the least load, and a gram

pub is_load_lem : (s : Sheet) → 0 < s.front.step → (k : ℕ) → (leb (div_ceil (max s.least 1) s.front.step) k && leb k (s.front.most / s.front.step)) ≡ is_load s k
is_load_lem s step k =
    let f = s.front.step in
    let lo = div_ceil (max s.least 1) f in
    let hi = s.front.most / f in
    let least = ceil (max s.least 1) f k step in
    let most = le-div_iff_mul-le {k = f} {x = k} {y = s.front.most} step in
    same (leb lo k && leb k hi) (is_load s k)
    (λ e.
    let load = least.0 (span_lo lo hi k e) in
    both (in_seat s k) (leb 1 (k * f)) (in_span s.least s.front.most (k * f) (omega (arith, load)) (most.0 (span_hi lo hi k e))) (le-leb 1 (k * f) (omega (arith, load))))
    (λ e.
    let seat = left (in_seat s k) (leb 1 (k * f)) e in
    let some = leb-true 1 (k * f) (right (in_seat s k) (leb 1 (k * f)) e) in
    in_span lo hi k (least.1 (omega (arith, span_lo s.least s.front.most (k * f) seat, some))) (most.1 (span_hi s.least s.front.most (k * f) seat)))

-- ---- the lines of what is carried

weight_is : {t m : ℤ} {s : Sheet} (x : Laden) → Stands s t m x → Is t x.weight 0
weight_is x h = rw h.weight at (is_nat x.weight)

module _ (s : Sheet) {t m : ℤ} (x : Laden) (h : Stands s t m x) where
  weight_test_lem : (most : ℕ) → at_most most t ≡ leb x.weight (2 * most + 0)
  weight_test_lem most = at_most_lem (weight_is x h) most

  fwd_test_lem : le_z (s.fwd *ℤ t) m ≡ leb (forward_margin x).down (forward_margin x).up
  fwd_test_lem =
      le_z_test (is_by x.forward h.forward) (is_by x.moment h.moment) (forward_margin x).down (forward_margin x).up (omega arith)

  aft_test_lem : le_z (pos 20 *ℤ m) (safe_arm s *ℤ t) ≡ leb (safe_margin x).down (safe_margin x).up
  aft_test_lem =
      le_z_test (is_mul (is_nat 20) (is_by x.moment h.moment)) (is_by x.safe h.safe) (safe_margin x).down (safe_margin x).up (omega arith)

-- ---- and with k steps more

-- whose load sits at an arm
module _ (s : Sheet) (arm : ℤ) (b : Balance) (r v : ℕ) (x y : Laden) (h : Beside s b r v x) (l : LoadOf s s.front.step arm y) (k : ℕ) where
  abbrev load : ℕ
  load = k * s.front.step

  whole : Stands s (laden s arm b r load v).total (laden s arm b r load v).moment (plus x (scaled k y))
  whole =
      rw (laden_on_total s arm b r load v, laden_on_moment s arm b r load v)
      (stands-plus s x (scaled k y) h (load-scaled s k s.front.step arm y l))

  pub weight_line : (most : ℕ) → at_most most (laden s arm b r load v).total ≡ weight_test x.weight y k (2 * most)
  weight_line most =
      weight_test_lem s (plus x (scaled k y)) whole most
      ∙ leb_by (x.weight + k * y.weight) (2 * most + 0) (x.weight + y.weight * k) (2 * most) (omega arith) (omega arith) refl

  -- the order of two sides, with the steps counted apart
  by_margin : (margin : Laden → Sides) → (margin (plus x (scaled k y))).down ≡ (margin x).down + (margin y).down * k → (margin (plus x (scaled k y))).up ≡ (margin x).up + (margin y).up * k → leb (margin (plus x (scaled k y))).down (margin (plus x (scaled k y))).up ≡ leb ((margin x).down + (margin y).down * k) ((margin x).up + (margin y).up * k)
  by_margin margin e f = rw (e, f)

  pub fwd_line_lem : fwd_line s arm b r load v ≡ fwd_test x y k
  fwd_line_lem = fwd_test_lem s (plus x (scaled k y)) whole ∙ by_margin forward_margin (omega arith) (omega arith)

  pub aft_line_lem : aft_line s arm b r load v ≡ aft_test x y k
  aft_line_lem = aft_test_lem s (plus x (scaled k y)) whole ∙ by_margin safe_margin (omega arith) (omega arith)

  -- n is the non-lifting weight with the rear load aboard
  pub nlp_line_lem : (n : ℕ) → pos n ≡ b.non_lifting +ℤ half_grams (pos r) → nlp_line s arm b r load v ≡ (eqb (2 * s.nlp) 0 || weight_test n y k (2 * s.nlp))
  nlp_line_lem n e =
      let more = weight_is (scaled k y) (load-scaled s k s.front.step arm y l) in
      let part : Is (laden s arm b r load v).non_lifting (n + k * y.weight) (0 + 0) = rw (laden_on_part s arm b r load v, ← e) (is_add (is_nat n) more) in
      let test : at_most s.nlp (laden s arm b r load v).non_lifting ≡ leb (n + y.weight * k) (2 * s.nlp) =
      at_most_lem part s.nlp ∙ leb_by (n + k * y.weight) (2 * s.nlp + (0 + 0)) (n + y.weight * k) (2 * s.nlp) (omega arith) (omega arith) refl in
      rw (test, no_halves s.nlp)

-- ---- all of them

-- the first of seven tests
pub first_of : (r a b c d e f g : Bool) → r ≡ ((((((a && b) && c) && d) && e) && f) && g) → r ≡ true → a ≡ true
first_of r a b c d e f g h t =
    left a b
    (left (a && b) c
    (left ((a && b) && c) d
    (left (((a && b) && c) && d) e (left ((((a && b) && c) && d) && e) f (left (((((a && b) && c) && d) && e) && f) g (sym h ∙ t))))))

-- with none of the water
pub none_kept : (s : Sheet) (f : Seat) (b : Balance) (r p : ℕ) (seat dry wet nlp fwd aft : Bool)
    → dry_line s f.lower b r p 0 ≡ dry → wet_line s f.lower b r p 0 ≡ wet → nlp_line s f.lower b r p 0 ≡ nlp → fwd_line s f.lower b r p 0 ≡ fwd → aft_line s (last f) b r p 0 ≡ aft
    → ((((((seat && leb 1 p) && dry) && wet) && nlp) && fwd) && aft) ≡ (seat && kept_at s f b r p 0)
none_kept s f b r p seat dry wet nlp fwd aft d w n g a =
    rw (kept_is s f b r p 0, d, w, n, g, a) (simp (and_assoc, and-true))

-- and with all of it, where x is the line of the moment that is left
pub all-kept : (seat none all wet x : Bool) → all ≡ (none && (wet && x)) → (((seat && none) && wet) && x) ≡ (seat && all)
all-kept seat none all wet x e = rw e (simp and_assoc)
