-- The values of an entry that gets no number fit their fields: each range of the numbers is one that a field holds.
-- Assumes nothing.
use Rattle.std.specs.Prelude.{◌≡◌, refl, Bool, true, false, not, ◌&&◌, List, [], ◌∷◌, ℕ, suc, ◌*◌, ◌-◌, ◌^◌, ◌≤◌, ◌<◌, leb, eqb, ℤ, pos, negsuc, nat_abs, ◌≤ℤ◌}
use Rattle.std.proofs.Common.{ap, arith, le-leb, leb-true}
use Rattle.std.proofs.Math.Bool.{and-false, or-true}
use Rattle.std.proofs.Math.Option.{Option}
use Rattle.std.specs.Int.Signed.{le_z}
use Rattle.std.proofs.lemmas.Bool.{not-false, lt-leb}
use Rattle.laws.specs.Tests.{kept, right}
use Rattle.laws.specs.Z.{zs}
use Rattle.paper.specs.declared.Weighing.{Weighing}
use Rattle.paper.specs.declared.Paired.{Paired}
use Rattle.paper.specs.declared.Sheet.{Sheet}
use Rattle.paper.specs.declared.Change.{Change}
use Rattle.paper.specs.declared.Seat.{Seat}
use Rattle.paper.specs.declared.Entry.{Entry}
use Rattle.paper.specs.declared.Entry.TheVariants as entry
use Rattle.paper.specs.Units.{is_weight, is_arm}
use Rattle.paper.specs.Record.{Balance, alike, paired, total_of, balance_of, is_none, sheet_stands}
use Rattle.paper.specs.File.{Field, complement, field_value, byte, word, signed_word, layout_of, values_of}
use Rattle.paper.specs.Refusals.{first_number, bad_reading, bad_distance, bad_part, weighing_faults, weighing_number, sheet_faults, sheet_number, is_change, change_faults, change_number, bad_ends, seat_faults, seat_number, entry_number, full}
use Rattle.paper.proofs.Numbers.{no_first, no_other}
use Rattle.paper.proofs.Changes.{weight_range, accepted_change}
use Rattle.paper.proofs.Units.{arm_range}
use Rattle.paper.proofs.Weighings.{Fine, first_fine, second_fine}
use Rattle.sheet.proofs.Accepted.{accepted-sheet}
use Rattle.paper.proofs.Seats.{ends_of_lem}
use Rattle.format.specs.Rows.{fields_of}

-- a value fits a field: what is written of it is no longer than the field, and reads as it
pub record Fit (f : Field) (v : ℤ) : Type 0 where
  pub small : complement f.width v < 256 ^ f.width
  pub reads : field_value f (complement f.width v) ≡ v

-- values fit these fields, one each
infixr 60 ◌and◌
pub data AllFit : List Field → List ℤ → Type 0 where
  done : AllFit [] []
  ◌and◌ : {f : Field} {v : ℤ} {fs : List Field} {vs : List ℤ} → Fit f v → AllFit fs vs → AllFit (f ∷ fs) (v ∷ vs)

-- ---- the kinds of field

fit_byte : (n : ℕ) → n ≤ 4 → Fit byte (pos n)
unfolding field_value
fit_byte n h = record { small = omega arith; reads = refl }

fit_word : (n : ℕ) → n ≤ 2000000 → Fit word (pos n)
unfolding field_value
fit_word n h = record { small = omega arith; reads = refl }

fit_signed : (z : ℤ) → (negsuc 1999999 ≤ℤ z) × (z ≤ℤ pos 2000000) → Fit signed_word z
unfolding field_value
fit_signed (pos n) h =
    let k : n ≤ 2000000 = omega (arith, zs, h.1) in
    record { small = omega arith; reads = rw (lt-leb (256 ^ 4) (2 * n) (omega arith)) }
fit_signed (negsuc n) h =
    let k : suc n ≤ 2000000 = omega (arith, zs, h.0) in
    record { small = omega arith; reads = rw (le-leb (256 ^ 4) (2 * (256 ^ 4 - suc n)) (omega arith)) (ap negsuc (omega arith)) }

-- ---- the entries

-- a bound whose failing would be a fault
most : {q : Bool} (a b : ℕ) → q ≡ false → (leb a b ≡ false → q ≡ true) → a ≤ b
most a b e f = leb-true a b (kept (leb a b) e f)

-- an arm whose failing would be a fault
arm : {q : Bool} (z : ℤ) → q ≡ false → (is_arm z ≡ false → q ≡ true) → (negsuc 1999999 ≤ℤ z) × (z ≤ℤ pos 2000000)
arm z e f = arm_range z (kept (is_arm z) e f)

-- the numbers of a reading that has no condition
module _ (w : Weighing) (fine : Fine w) where
  fit_m : Fit byte (pos w.m)
  unfolding bad_reading
  fit_m = fit_byte w.m (most w.m 4 fine.0 (λ h. simp (h, and-false)))

  fit_p : Fit word (pos w.p)
  unfolding bad_reading is_weight
  fit_p = fit_word w.p (most w.p 2000000 fine.0 (λ h. simp (h, or-true)))

  fit_q : Fit word (pos w.q)
  unfolding bad_reading is_weight
  fit_q = fit_word w.q (most w.q 2000000 fine.0 (λ h. simp (h, or-true)))

  fit_a : Fit signed_word w.a
  unfolding bad_distance
  fit_a = fit_signed w.a (arm w.a fine.1 (λ h. simp h))

  fit_b : Fit word (pos w.b)
  unfolding bad_distance
  fit_b = fit_word w.b (most w.b 2000000 fine.1 (λ h. simp (h, and-false, or-true)))

  -- n is at most G
  fit_n : Fit word (pos w.n)
  unfolding bad_reading bad_part
  fit_n =
      let g = kept (le_z (total_of w) (pos 2000000)) fine.0 (λ k. simp (k, and-false, or-true)) in
      let l = kept (le_z (pos w.n) (total_of w)) fine.2 (λ k. simp (k, and-false)) in
      fit_word w.n (omega (arith, zs))

weighing_fits : (w : Weighing) → first_number (weighing_faults (alike w)) ≡ 0 → AllFit (fields_of (entry.Weighing w)) (values_of (entry.Weighing w))
unfolding layout_of
weighing_fits w e =
    let f = first_fine (alike w) e in
    fit_m w f and fit_p w f and fit_q w f and fit_a w f and fit_b w f and fit_n w f and done

pair_fits : (x : Paired) → first_number (weighing_faults (paired x)) ≡ 0 → AllFit (fields_of (entry.Paired x)) (values_of (entry.Paired x))
unfolding layout_of
pair_fits x e =
    let v = (paired x).first in
    let w = (paired x).second in
    let f = first_fine (paired x) e in
    let g = second_fine (paired x) e in
    fit_m v f and fit_p v f and fit_q v f and fit_p w g and fit_q w g and fit_a v f and fit_b v f and fit_n v f and done

sheet_fits : (s : Sheet) → first_number (sheet_faults s) ≡ 0 → AllFit (fields_of (entry.Sheet s)) (values_of (entry.Sheet s))
unfolding layout_of
sheet_fits s e =
    let a = accepted-sheet s e in
    let arms = a.arms in
    let ranges = a.ranges in
    let steps = a.steps in
    fit_signed s.fwd arms.fwd
    and fit_signed s.aft arms.aft
    and fit_word s.dry (omega (arith, ranges.dry, ranges.wet))
    and fit_word s.wet ranges.wet
    and fit_word s.nlp ranges.nlp
    and fit_signed s.front.arm arms.front
    and fit_word s.least (omega (arith, ranges.least, ranges.front))
    and fit_word s.front.most (omega (arith, ranges.front))
    and fit_word s.front.step (omega (arith, steps.front.1))
    and fit_signed s.rear.arm arms.rear
    and fit_word s.rear.most (omega (arith, ranges.rear))
    and fit_word s.rear.step (omega (arith, steps.rear.1))
    and fit_signed s.water.arm arms.water
    and fit_word s.water.most ranges.water
    and fit_word s.water.step steps.water.1
    and done

change_fits : (o : Option Balance) (x : Change) → first_number (change_faults o x) ≡ 0 → AllFit (fields_of (entry.Change x)) (values_of (entry.Change x))
unfolding change_faults layout_of is_change is_arm
change_fits o x e =
    let e₂ = no_other 7 (is_none o) _ (omega arith) e in
    let at = no_first 2 (not (is_arm x.arm)) _ (omega arith) e₂ in
    let range = (accepted_change o x e).1 in
    let some = not (eqb (nat_abs x.c) 0) in
    fit_signed x.c (weight_range x range)
    and fit_signed x.arm (arm_range x.arm (not-false (is_arm x.arm) at))
    and fit_byte x.flag (omega (arith, leb-true x.flag 1 (right (is_arm x.c && some) (leb x.flag 1) range)))
    and done

seat_fits : (sheet : Bool) (f : Seat) → first_number (seat_faults sheet f) ≡ 0 → AllFit (fields_of (entry.Seat f)) (values_of (entry.Seat f))
unfolding seat_faults layout_of
seat_fits sheet f e =
    let ends = ends_of_lem f (no_first 2 (bad_ends f) _ (omega arith) (no_other 8 (not sheet) _ (omega arith) e)) in
    fit_signed f.lower ends.lower and fit_signed f.higher ends.higher and done

pub entry_fits : (es : List Entry) (e : Entry) → entry_number es e ≡ 0 → AllFit (fields_of e) (values_of e)
unfolding entry_number weighing_number sheet_number change_number seat_number
entry_fits es (entry.Weighing w) n = weighing_fits w (no_other 9 (full es) _ (omega arith) n)
entry_fits es (entry.Sheet s) n = sheet_fits s (no_other 9 (full es) _ (omega arith) n)
entry_fits es (entry.Change x) n = change_fits (balance_of es) x (no_other 9 (full es) _ (omega arith) n)
entry_fits es (entry.Paired x) n = pair_fits x (no_other 9 (full es) _ (omega arith) n)
entry_fits es (entry.Seat f) n = seat_fits (sheet_stands es) f (no_other 9 (full es) _ (omega arith) n)
