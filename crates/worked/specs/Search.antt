-- A row by a shorter search than its definition's, so that it can be computed: only multiples of the front step are tried, each
-- with none of the water and with all of it, which decide (`both_ends`), and each line at its own end of the seat. It is the same
-- row, and the placard of such rows is the same placard. Assumes nothing.
use Rattle.std.specs.Prelude.{◌≡◌, refl, Bool, true, cond, ◌&&◌, Some, None, Result, Ok, List, map, ℕ, zero, suc, ◌*◌, ◌/◌, ◌%◌, ◌≤◌, leb, eqb}
use Rattle.std.proofs.Common.{sym, ap, ◌∙◌, true≢false, div-add-mod', div-mul-le_self, mul-le-mul_right, arith, eqb-true}
use Rattle.std.proofs.Math.Path.{fun_ext}
use Rattle.std.proofs.Math.Option.{Option, none, some}
use Rattle.std.proofs.Math.Nat.{div-zero}
use Rattle.std.specs.Float.Ieee.Nearest.{div_mono}
use Rattle.laws.specs.Tests.{isnt, left}
use Rattle.paper.specs.declared.Sheet.{Sheet}
use Rattle.paper.specs.declared.Seat.{Seat}
use Rattle.paper.specs.declared.Placard.{Placard}
use Rattle.paper.specs.declared.Refusal.{Refusal}
use Rattle.paper.specs.Units.{half_grams}
use Rattle.paper.specs.Record.{Balance, ends_of, with}
use Rattle.paper.specs.Rows.{Row, laden, at_most, is_step, good, smallest, largest, row_of, row, joined, loads, row_count}
use Rattle.paper.specs.Placard.{line, text, text_length, blank_of, blank_count}
use Rattle.paper.specs.Answers.{over, placard_given, placard_refused, placard_by}
use Rattle.planes.proofs.Searches.{Outcome, a_range, a_blank, outcome, row_of-ends, row_of_none}
use Rattle.planes.specs.Plane.{kept_at}
use Rattle.planes.proofs.Lines.{dry_line, wet_line, nlp_line, fwd_line, aft_line}
use Rattle.planes.proofs.Arms.{last, kept_is}
use Rattle.planes.proofs.HalfPlanes.{planes_of, keeps_planes}
use Rattle.planes.proofs.Convex.{both_ends}
use Rattle.planes.proofs.Rows.{good_is, is_step_lem, limits_of}

-- ---- multiples of f only

abbrev times : ℕ → Row → Row
times f (Some (lo, hi)) = Some (lo * f, hi * f)
times f None = None

fewer : (f j n : ℕ) → j ≤ n → j / f ≤ n / f
fewer zero j n h = rw (div-zero j, div-zero n) (omega arith)
fewer (suc f) j n h = div_mono j (suc f) n (suc f) (omega arith) (omega arith) (mul-le-mul_right (suc f) h)

by_steps : (q : ℕ → Bool) (n f : ℕ) → ((j : ℕ) → q j ≡ true → j % f ≡ 0) → row_of q n ≡ times f (row_of (λ (k : ℕ). q (k * f)) (n / f))
by_steps q n f h = by (outcome (λ (k : ℕ). q (k * f)) (n / f))
  where
    -- a number that passes is a multiple
    multiple : (j : ℕ) → q j ≡ true → j / f * f ≡ j
    multiple j e = omega (arith, div-add-mod' j f, h j e)

    below : (k : ℕ) → k ≤ n / f → k * f ≤ n
    below k m = omega (arith, mul-le-mul_right f m, div-mul-le_self n f)

    by : Outcome (λ (k : ℕ). q (k * f)) (n / f) → row_of q n ≡ times f (row_of (λ (k : ℕ). q (k * f)) (n / f))
    by (a_range lo hi e ends) =
        rw e (row_of-ends q n (lo * f) (hi * f) (
          ends.0,
          ends.1,
          below lo ends.2,
          below hi ends.3,
          λ j m t.
              let k = ends.4 (j / f) (fewer f j n m) (ap q (multiple j t) ∙ t) in (
                omega (arith, multiple j t, mul-le-mul_right f k.0),
                omega (arith, multiple j t, mul-le-mul_right f k.1),
              ),
        ))
    by (a_blank e empty) =
        rw e (row_of_none q n
        (λ j m. isnt (q j) (λ t. true≢false (sym t ∙ sym (ap q (multiple j t)) ∙ empty (j / f) (fewer f j n m)))))

-- ---- the row

-- every line holds with v aboard: FWD's at the lower end, the safe aft limit's at the last arm, which decide (`kept_is`)
unfoldable pub kept_by : Sheet → Seat → Balance → ℕ → ℕ → ℕ → Bool
unfolding laden with at_most half_grams
kept_by s f b r p v =
    leb 1 p && (dry_line s f.lower b r p v && (wet_line s f.lower b r p v && (nlp_line s f.lower b r p v && (fwd_line s f.lower b r p v && (aft_line s (last f) b r p v && true)))))

pub kept_by_lem : (s : Sheet) (f : Seat) (b : Balance) (r p v : ℕ) → kept_at s f b r p v ≡ kept_by s f b r p v
unfolding kept_by
kept_by_lem s f b r p v = kept_is s f b r p v

-- a front load is a step, and every line holds with none of the water and with all of it
keeps_both : Sheet → Seat → Balance → ℕ → ℕ → ℕ → Bool
unfolding is_step kept_by
keeps_both s f b r w p = is_step s p && (kept_by s f b r p 0 && kept_by s f b r p w)

unfoldable pub row_by : Sheet → Seat → Balance → ℕ → ℕ → Row
unfolding keeps_both row_of smallest largest
row_by s f b r w =
    times s.front.step (row_of (λ (k : ℕ). keeps_both s f b r w (k * s.front.step)) (s.front.most / s.front.step))

good-both : (s : Sheet) (f : Seat) (b : Balance) (r w p : ℕ) → good s f b r w p ≡ keeps_both s f b r w p
unfolding keeps_both
good-both s f b r w p =
    good_is s f b r w p
    ∙ ap (λ (x : Bool). is_step s p && x) (both_ends (kept_at s f b r) (planes_of s f b r) (keeps_planes s f b r) p w)
    ∙ rw (kept_by_lem s f b r p 0, kept_by_lem s f b r p w)

step_multiple : (s : Sheet) (f : Seat) (b : Balance) (r w p : ℕ) → good s f b r w p ≡ true → p % s.front.step ≡ 0
unfolding is_step
step_multiple s f b r w p e =
    let t = eqb (p % s.front.step) 0 in
    eqb-true (p % s.front.step) 0
    (left t (leb s.least p) (left (t && leb s.least p) (leb p s.front.most) (is_step_lem (limits_of s f b r w) p e)))

pub row_is : (s : Sheet) (f : Seat) (b : Balance) → row s f b ≡ row_by s f b
unfolding row row_by
row_is s f b =
    fun_ext (λ r.
    fun_ext (λ w.
    by_steps (good s f b r w) s.front.most s.front.step (step_multiple s f b r w)
    ∙ ap
    (λ (q : ℕ → Bool). times s.front.step (row_of (λ (k : ℕ). q (k * s.front.step)) (s.front.most / s.front.step)))
    (fun_ext (λ p. good-both s f b r w p))))

-- ---- the placard, where g gives the row of a rear load and water

abbrev pub text_by : (ℕ → ℕ → Row) → Sheet → List ℕ
text_by g s = joined (map (λ (x : ℕ × ℕ). line x.0 x.1 (g x.0 x.1)) (loads s))

abbrev given_by : (ℕ → ℕ → Row) → Sheet → List ℕ → Result Placard Refusal × List ℕ
given_by g s buffer = (
  Ok
      (record {
        bytes = text_length s;
        rows = row_count s;
        blank = blank_of (map (λ (x : ℕ × ℕ). g x.0 x.1) (loads s));
      }),
  over (text_by g s) buffer,
)

pub text_is : (s : Sheet) (f : Seat) (b : Balance) → text s f b ≡ text_by (row_by s f b) s
unfolding text
text_is s f b = ap (λ (g : ℕ → ℕ → Row). text_by g s) (row_is s f b)

given_is : (s : Sheet) (f : Seat) (b : Balance) (buffer : List ℕ) → (Ok (placard_given s f b), over (text s f b) buffer) ≡ given_by (row_by s f b) s buffer
unfolding placard_given text blank_count
given_is s f b buffer = ap (λ (g : ℕ → ℕ → Row). given_by g s buffer) (row_is s f b)

-- `placard_by` with the shorter search
abbrev pub answer_by : ℕ → Option Sheet → Option Seat → Option Balance → List ℕ → Result Placard Refusal × List ℕ
answer_by n none f o buffer = placard_refused n buffer
answer_by n (some s) f none buffer = placard_refused n buffer
answer_by n (some s) f (some b) buffer =
    cond (eqb n 0) (given_by (row_by s (ends_of s f) b) s buffer) (placard_refused n buffer)

pub answer_is : (n : ℕ) (o : Option Sheet) (f : Option Seat) (q : Option Balance) (buffer : List ℕ) → placard_by n o f q buffer ≡ answer_by n o f q buffer
answer_is n none f q buffer = refl
answer_is n (some s) f none buffer = refl
answer_is n (some s) f (some b) buffer =
    ap (λ (x : Result Placard Refusal × List ℕ). cond (eqb n 0) x (placard_refused n buffer)) (given_is s (ends_of s f) b buffer)
