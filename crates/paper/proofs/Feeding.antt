-- A weighing by an indicator, by what its four readings give: a refusal is the call's, and else the call is that of the paired
-- weighing that they feed; and what each of them counts where it is accepted. By the two conditions of the readings. Assumes nothing.
use Rattle.std.specs.Prelude.{◌≡◌, refl, Bool, true, false, not, ◌||◌, List, [], ◌∷◌, ℕ, ℤ, pos, negsuc, nat_abs, Option, Some, None, Result, Ok, Err}
use Rattle.std.proofs.Common.{arith}
use Rattle.std.specs.Float.{Float}
use lib.Ieee.{lt}
use lib.Ieee.Scale.{finite}
use Rattle.std.specs.Int.Signed.{lt_z}
use Rattle.laws.specs.Tests.{clash, not_left, not_right}
use Rattle.paper.specs.declared.Paired.{Paired}
use Rattle.paper.specs.declared.Refusal.{Refusal}
use Rattle.paper.specs.declared.Refusal.TheVariants as refusal
use Rattle.paper.specs.declared.Entry.{Entry}
use Rattle.paper.specs.Numbers.{number_of, refusal_of, answer_of}
use Rattle.paper.specs.Record.{paired}
use Rattle.paper.proofs.Numbers.{no_first, no_other}
use Rattle.paper.specs.Indicator.{is_load, Sent, kilograms_of, net, unsteady, bad_load, out_of_range, net_of, Counts, SentWeighing, is_turned, any_of, paired_of}
use Rattle.paper.specs.Refusals.{◌when◌, first_number, full, weighing_faults, weighing_number, indicator_faults, indicator_number}

-- what the readings give: the paired weighing, or why it is refused
abbrev pub fed : SentWeighing → Result Paired Refusal
fed x = answer_of (first_number (indicator_faults x)) (paired_of x)

refused_by : (a b : Bool) (ys : List (ℕ × Bool)) (y : Paired) (r : Refusal) → Err r ≡ answer_of (first_number (13 when a ∷ 14 when b ∷ [])) y → first_number (13 when a ∷ 14 when b ∷ ys) ≡ number_of r
unfolding first_number refusal_of
refused_by true b ys y r e = let is : r ≡ refusal.Unsteady = cc in rw is refl
refused_by false true ys y r e = let is : r ≡ refusal.Load = cc in rw is refl
refused_by false false ys y r e = cc

fed_by : (a b : Bool) (ys : List (ℕ × Bool)) (y z : Paired) → Ok z ≡ answer_of (first_number (13 when a ∷ 14 when b ∷ [])) y → (z ≡ y) × (first_number (13 when a ∷ 14 when b ∷ ys) ≡ first_number ys)
unfolding first_number refusal_of
fed_by true b ys y z e = cc
fed_by false true ys y z e = cc
fed_by false false ys y z e = (cc, refl)

module _ (es : List Entry) (x : SentWeighing) where
  pub refused_readings : (r : Refusal) → Err r ≡ fed x → indicator_number es x ≡ number_of r
  unfolding indicator_number indicator_faults
  refused_readings r e =
      refused_by (any_of (λ turned. unsteady) x) (any_of out_of_range x) (9 when full es ∷ weighing_faults (paired (paired_of x))) (paired_of x) r e

  pub fed_readings : (z : Paired) → Ok z ≡ fed x → (z ≡ paired_of x) × (indicator_number es x ≡ weighing_number es (paired (paired_of x)))
  unfolding indicator_number indicator_faults weighing_number
  fed_readings z e =
      fed_by (any_of (λ turned. unsteady) x) (any_of out_of_range x) (9 when full es ∷ weighing_faults (paired (paired_of x))) (paired_of x) z e

-- ---- an accepted one

none_below : (z : ℤ) → lt_z z (pos 0) ≡ false → pos (nat_abs z) ≡ z
none_below (pos n) h = refl
none_below (negsuc n) h = cc

-- a reading without a number
counted : (turned : Bool) (s : Sent) → unsteady s ≡ false → out_of_range turned s ≡ false → Counts turned s (net_of turned s)
unfolding unsteady out_of_range net_of bad_load
counted turned s u o = by (kilograms_of s) refl
  where
    by : (k : Option Float) → kilograms_of s ≡ k → Counts turned s (net_of turned s)
    by None e = absurd (clash true refl (rw e at u))
    by (Some x) e =
        let fine : bad_load turned s.cell x ≡ false = rw e at o in
        record {
          kilograms = x;
          shown = e;
          in_range = fine;
          net_is = rw e (none_below (net turned s.cell x) (not_right (not (finite s.cell.rated) || not (is_load x) || not (is_load s.cell.zero) || lt s.cell.rated x) (lt_z (net turned s.cell x) (pos 0)) fine));
        }

-- none of four has a condition
clear : (bad : Bool → Sent → Bool) (x : SentWeighing) → any_of bad x ≡ false → (bad false x.p ≡ false) × (bad (is_turned x) x.q ≡ false) × (bad false x.p2 ≡ false) × (bad (is_turned x) x.q2 ≡ false)
clear bad x h =
    let a = bad false x.p in
    let b = bad (is_turned x) x.q in
    let c = bad false x.p2 in
    let d = bad (is_turned x) x.q2 in
    let three = not_left (a || b || c) d h in
    let two = not_left (a || b) c three in
    (not_left a b two, not_right a b two, not_right (a || b) c three, not_right (a || b || c) d h)

pub accepted_counts : (es : List Entry) (x : SentWeighing) → indicator_number es x ≡ 0
    → Counts false x.p (paired_of x).p × Counts (is_turned x) x.q (paired_of x).q × Counts false x.p2 (paired_of x).p2 × Counts (is_turned x) x.q2 (paired_of x).q2
unfolding indicator_number indicator_faults paired_of
accepted_counts es x n =
    let behind = 9 when full es ∷ weighing_faults (paired (paired_of x)) in
    let u = clear (λ turned. unsteady) x (no_first 13 _ (14 when any_of out_of_range x ∷ behind) (omega arith) n) in
    let o = clear out_of_range x (no_first 14 _ behind (omega arith) (no_other 13 _ (14 when any_of out_of_range x ∷ behind) (omega arith) n)) in (
      counted false x.p u.0 o.0,
      counted (is_turned x) x.q u.1 o.1,
      counted false x.p2 u.2 o.2,
      counted (is_turned x) x.q2 u.3 o.3,
    )

-- and the paired weighing of the nets is accepted
pub accepted_pair : (es : List Entry) (x : SentWeighing) → indicator_number es x ≡ 0 → weighing_number es (paired (paired_of x)) ≡ 0
unfolding indicator_number indicator_faults weighing_number
accepted_pair es x n = no_other 14 _ _ (omega arith) (no_other 13 _ _ (omega arith) n)
