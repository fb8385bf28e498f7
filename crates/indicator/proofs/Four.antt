-- Four readings in turn: which number the first that fails gives, and what they feed where none fails. Each is computed on the
-- readings so far. Assumes nothing.
use Rattle.std.specs.Prelude.{◌≡◌, refl, Bool, true, false, cond, ℕ, nat_abs, Option, Some, None, Result, Ok, Err, ok_or}
use Rattle.std.specs.Float.{Float}
use Rattle.paper.specs.declared.Paired.{Paired}
use Rattle.paper.specs.declared.Refusal.{Refusal}
use Rattle.paper.specs.declared.Refusal.TheVariants as refusal
use Rattle.paper.specs.Numbers.{refusal_of}
use Rattle.paper.specs.Indicator.{Sent, kilograms_of, net, unsteady, bad_load, out_of_range, net_of, SentWeighing, is_turned, paired_of}
use Rattle.paper.specs.Refusals.{first_number, indicator_faults}
use Rattle.paper.proofs.Feeding.{fed}

-- ---- what a step answers, and what that says of the reading

pub steady : (o : Option Float) (k : Float) → ◌≡◌ {A = Result Float Refusal} (Ok k) (ok_or o refusal.Unsteady) → o ≡ Some k
steady None k e = cc
steady (Some x) k e = cc

pub not_steady : (o : Option Float) (r : Refusal) → ◌≡◌ {A = Result Float Refusal} (Err r) (ok_or o refusal.Unsteady) → (o ≡ None) × (r ≡ refusal.Unsteady)
not_steady None r e = (refl, cc)
not_steady (Some x) r e = cc

pub loaded : (bad : Bool) (n g : ℕ) → ◌≡◌ {A = Result ℕ Refusal} (Ok g) (cond bad (Err refusal.Load) (Ok n)) → (bad ≡ false) × (g ≡ n)
loaded true n g e = cc
loaded false n g e = (refl, cc)

pub not_loaded : (bad : Bool) (n : ℕ) (r : Refusal) → ◌≡◌ {A = Result ℕ Refusal} (Err r) (cond bad (Err refusal.Load) (Ok n)) → (bad ≡ true) × (r ≡ refusal.Load)
not_loaded true n r e = (refl, cc)
not_loaded false n r e = cc

-- ---- four of them

-- a message is a stable reading of so many kilograms
abbrev Shows : Sent → Float → Type 0
Shows s k = kilograms_of s ≡ Some k

-- so many kilograms are in their ranges, and the net has g grams
abbrev Weighs : Bool → Sent → Float → ℕ → Type 0
Weighs turned s k g = (bad_load turned s.cell k ≡ false) × (g ≡ nat_abs (net turned s.cell k))

module _ (x : SentWeighing) where
  pub first_unsteady : kilograms_of x.p ≡ None → Err refusal.Unsteady ≡ fed x
  unfolding first_number refusal_of indicator_faults unsteady
  first_unsteady e = rw e refl

  module _ (p : Float) (sp : Shows x.p p) where
    pub second_unsteady : kilograms_of x.q ≡ None → Err refusal.Unsteady ≡ fed x
    unfolding first_number refusal_of indicator_faults unsteady
    second_unsteady e = rw (sp, e) refl

    module _ (q : Float) (sq : Shows x.q q) where
      pub third_unsteady : kilograms_of x.p2 ≡ None → Err refusal.Unsteady ≡ fed x
      unfolding first_number refusal_of indicator_faults unsteady
      third_unsteady e = rw (sp, sq, e) refl

      module _ (p2 : Float) (sp2 : Shows x.p2 p2) where
        pub fourth_unsteady : kilograms_of x.q2 ≡ None → Err refusal.Unsteady ≡ fed x
        unfolding first_number refusal_of indicator_faults unsteady
        fourth_unsteady e = rw (sp, sq, sp2, e) refl

        module _ (q2 : Float) (sq2 : Shows x.q2 q2) where
          pub first_bad : bad_load false x.p.cell p ≡ true → Err refusal.Load ≡ fed x
          unfolding first_number refusal_of indicator_faults unsteady out_of_range
          first_bad e = rw (sp, sq, sp2, sq2, e) refl

          module _ (g : ℕ) (fp : Weighs false x.p p g) where
            pub second_bad : bad_load (is_turned x) x.q.cell q ≡ true → Err refusal.Load ≡ fed x
            unfolding first_number refusal_of indicator_faults unsteady out_of_range
            second_bad e = rw (sp, sq, sp2, sq2, fp.0, e) refl

            module _ (h : ℕ) (fq : Weighs (is_turned x) x.q q h) where
              pub third_bad : bad_load false x.p2.cell p2 ≡ true → Err refusal.Load ≡ fed x
              unfolding first_number refusal_of indicator_faults unsteady out_of_range
              third_bad e = rw (sp, sq, sp2, sq2, fp.0, fq.0, e) refl

              module _ (g2 : ℕ) (fp2 : Weighs false x.p2 p2 g2) where
                pub fourth_bad : bad_load (is_turned x) x.q2.cell q2 ≡ true → Err refusal.Load ≡ fed x
                unfolding first_number refusal_of indicator_faults unsteady out_of_range
                fourth_bad e = rw (sp, sq, sp2, sq2, fp.0, fq.0, fp2.0, e) refl

                pub all_counted : (h2 : ℕ) → Weighs (is_turned x) x.q2 q2 h2 → ◌≡◌ {A = Result Paired Refusal} (Ok (record { m = x.m; p = g; q = h; p2 = g2; q2 = h2; a = x.a; b = x.b; n = x.n })) (fed x)
                unfolding first_number indicator_faults unsteady out_of_range paired_of net_of
                all_counted h2 fq2 =
                    rw (sp, sq, sp2, sq2, fp.0, fq.0, fp2.0, fq2.0, fp.1, fq.1, fp2.1, fq2.1) refl
