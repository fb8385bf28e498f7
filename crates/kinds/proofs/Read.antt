-- What a source gives: a field, and those behind it, of bytes by what they spell and of values by their place; and a kind's fields in
-- turn. Assumes nothing.
use Rattle.std.proofs.Common.{◌≡◌, ℕ, suc, ◌+◌, ◌^◌, ◌<◌, ℤ, List, [], ◌∷◌, length, take, drop, arith, pos, refl, sym, ap, ◌∙◌}
use mir.Syntax.{w64}
use mir.Val.{hbits, to_z, of_z}
use mir.Facts.{to_z-of_z}
use lib.Signed.{mag}
use Rattle.paper.specs.declared.Station.{Station}
use Rattle.paper.specs.File.{Field, word, signed_word, number_of, field_value, signed_at}
use Rattle.format.specs.Fields.{widths, total, numbers_from, values_by}
use Rattle.kinds.specs.Values.{values_in, sizes, shown, given_from, Gives, GivesStation}

-- ---- of bytes

pub of_bytes : (f : Field) (xs ys : List ℕ) (v : ℤ) → v ≡ field_value f (number_of (take f.width xs)) → ys ≡ drop f.width xs → (fs : List Field) → values_in (f ∷ fs) xs ≡ v ∷ values_in fs ys
unfolding widths numbers_from values_by
of_bytes f xs ys v e d fs = rw (e, d)

-- ---- of values

next_at : (vs : List ℤ) (i : ℕ) → signed_at vs (suc i) ≡ signed_at (drop 1 vs) i
next_at [] i = refl
next_at (v ∷ vs) i = refl

from_next : (vs : List ℤ) (i : ℕ) (fs : List Field) → given_from vs (suc i) fs ≡ given_from (drop 1 vs) i fs
from_next vs i [] = refl
from_next vs i (f ∷ fs) = rw (next_at vs i, from_next vs (suc i) fs)

pub of_values : (f : Field) (vs ws : List ℤ) (v : ℤ) → v ≡ shown f (signed_at vs 0) → ws ≡ drop 1 vs → (fs : List Field) → given_from vs 0 (f ∷ fs) ≡ v ∷ given_from ws 0 fs
of_values f vs ws v e d fs = rw (e, d, from_next vs 0 fs)

-- ---- how much they take: as many bytes as they are wide, one value each

pub sizes_widths : (fs : List Field) → sizes (λ f. f.width) fs ≡ total (widths fs)
unfolding widths total
sizes_widths [] = refl
sizes_widths (f ∷ fs) = ap (λ (n : ℕ). f.width + n) (sizes_widths fs)

pub sizes_one : (fs : List Field) → sizes (λ f. 1) fs ≡ length fs
sizes_one [] = refl
sizes_one (f ∷ fs) = omega (arith, sizes_one fs)

-- ---- of any source, a kind's fields in turn

module _ {A : Type 0} {left : A → ℕ} {size : Field → ℕ} {given : A → List Field → List ℤ} where
  -- a signed one, as it is held
  pub held : {f : Field} {s t : A} {x : ℤ} → mag x < 2 ^ hbits w64 → Gives left size given f s x t → Gives left size given f s (to_z w64 (of_z w64 x)) t
  held {x = x} h r = rw (sym (to_z-of_z {w = w64} {z = x} (record { sfits = h }))) at r

  -- a field, and those behind it
  pub then_given : {f : Field} {s t : A} {v : ℤ} {fs : List Field} {vs : List ℤ} → Gives left size given f s v t → given t fs ≡ vs → given s (f ∷ fs) ≡ v ∷ vs
  then_given {v = v} {fs = fs} r e = r.values fs ∙ ap (λ (ws : List ℤ). v ∷ ws) e

  pub station_given : {s t : A} {r : Station} {fs : List Field} {vs : List ℤ} → GivesStation left size given s r t → given t fs ≡ vs → given s (signed_word ∷ word ∷ word ∷ fs) ≡ r.arm ∷ pos r.most ∷ pos r.step ∷ vs
  station_given {r = r} {fs = fs} g e = g.values fs ∙ ap (λ (ws : List ℤ). r.arm ∷ pos r.most ∷ pos r.step ∷ ws) e
