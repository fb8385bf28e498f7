-- An entry that its call accepts is readable: each value fits a field of at most four bytes, so its size is below
-- 10 ^ 18. Assumes nothing.
use mathlib.Core.Path.{◌≡◌, refl, ap}
use mathlib.Core.Bool.{Bool, true, false, cond, ◌&&◌}
use mathlib.Core.List.{List, [], ◌∷◌}
use Prim.Native.Nat.{ℕ, suc, ◌*◌, ◌-◌, ◌^◌, ◌≤◌, ◌<◌}
use native.Mathlib.Omega.{arith}
use lib.Dec.{leb, ltb}
use lib.IntN.{ℤ, pos, negsuc, nat_abs}
use borrow.Author.Tests.{ltb-true}
use Rattle.laws.specs.Tests.{left, right}
use Rattle.laws.specs.Lists.{Each}
use Rattle.laws.specs.Z.{dn}
use Rattle.paper.specs.declared.Entry.{Entry}
use Rattle.paper.specs.declared.Entry.TheVariants as entry
use Rattle.paper.specs.File.{Field, field_value, layout_of, values_of}
use Rattle.paper.specs.Refusals.{entry_number}
use Rattle.format.specs.Rows.{fields_of}
use Rattle.format.specs.Fitting.{Fit, AllFit, done, ◌and◌, entry_fits}
use Rattle.wording.specs.Texts.{Readable}

-- ---- one value

-- a number below 0 that reads as itself out of a field of p values
below_by : (t : Bool) (p n : ℕ) → p - suc n < p → cond t (negsuc (p - suc (p - suc n))) (pos (p - suc n)) ≡ negsuc n → suc n ≤ p
below_by true p n h e = let k : suc (p - suc (p - suc n)) ≡ suc n = ap dn e in omega arith
below_by false p n h e = let k : 0 ≡ suc n = ap dn e in omega arith

-- no value is larger than its field has values
fit_size : (f : Field) (v : ℤ) → Fit f v → nat_abs v ≤ 256 ^ f.width
unfolding field_value
fit_size f (pos n) h = omega (arith, h.small)
fit_size f (negsuc n) h =
    let p = 256 ^ f.width in
    below_by (f.signed && leb p (2 * (p - suc n))) p n h.small h.reads

-- ---- an entry

-- each field has less than 10 ^ 18 values
abbrev narrow : List Field → Bool
narrow [] = true
narrow (f ∷ fs) = ltb (256 ^ f.width) (10 ^ 18) && narrow fs

fields_narrow : (e : Entry) → narrow (fields_of e) ≡ true
unfolding layout_of
fields_narrow (entry.Weighing w) = refl
fields_narrow (entry.Sheet s) = refl
fields_narrow (entry.Change x) = refl
fields_narrow (entry.Paired x) = refl
fields_narrow (entry.Seat f) = refl

all_small : (fs : List Field) (vs : List ℤ) → AllFit fs vs → narrow fs ≡ true → Each (λ (v : ℤ). nat_abs v < 10 ^ 18) vs
all_small [] [] done n = tt
all_small [] (v ∷ vs) h n = elim h [ ]
all_small (f ∷ fs) [] h n = elim h [ ]
all_small (f ∷ fs) (v ∷ vs) (h and hs) n =
    let t = ltb (256 ^ f.width) (10 ^ 18) in
    let k : 256 ^ f.width < 10 ^ 18 = ltb-true (256 ^ f.width) (10 ^ 18) (left t (narrow fs) n) in
    (omega (arith, fit_size f v h), all_small fs vs hs (right t (narrow fs) n))

pub entry_readable : (es : List Entry) (e : Entry) → entry_number es e ≡ 0 → Readable e
entry_readable es e n = all_small (fields_of e) (values_of e) (entry_fits es e n) (fields_narrow e)
