-- A line can be read in one way only: its fields have their places, and each field's digits give back its number. So what a
-- placard prints of a row is that row and no other. Assumes nothing.
use mathlib.Core.Path.{◌≡◌, refl, sym, ◌∙◌}
use mathlib.Core.List.{List, [], ◌∷◌, ◌++◌, head-eq_of_cons-eq, tail-eq_of_cons-eq}
use Prim.Native.Nat.{ℕ, ◌/◌, ◌%◌, ◌^◌, ◌<◌}
use native.Mathlib.Nat.{mod-eq_of_lt}
use native.Mathlib.Omega.{arith}
use Rattle.laws.specs.Lists.{parts_same}
use Rattle.laws.specs.Spelled.{same_spelled}
use Rattle.std.specs.Prelude.{Some, None}
use Rattle.paper.specs.Rows.{Row}
use Rattle.paper.specs.Placard.{space, feed, digits, kilograms, ends, line, Fits, RowFits, ReadAs}
use Rattle.line.proofs.Length.{length-kilograms, length_pair, length_fields}
use Rattle.numerals.proofs.Digits.{spelled, length_digits}

digits_same : (k n m : ℕ) → n < 10 ^ k → m < 10 ^ k → digits k n ≡ digits k m → n ≡ m
digits_same k n m h l e =
    rw (mod-eq_of_lt h, mod-eq_of_lt l) at (same_spelled spelled (omega arith) (λ x y d. omega arith) k n m e)

pub kilograms_same : (n m : ℕ) → Fits n → Fits m → kilograms n ≡ kilograms m → n ≡ m
unfolding kilograms
kilograms_same n m h l e =
    let p = parts_same 4 (digits 4 (n / 1000)) (digits 4 (m / 1000)) _ _ (length_digits 4 (n / 1000)) (length_digits 4 (m / 1000)) e in
    let whole = digits_same 4 (n / 1000) (m / 1000) (omega arith) (omega arith) p.0 in
    let part = digits_same 3 (n % 1000) (m % 1000) (omega arith) (omega arith) (tail-eq_of_cons-eq p.1) in
    omega (arith, whole, part)

-- two fields with a space between
pair_same : (a b c d : ℕ) → Fits a → Fits b → Fits c → Fits d → kilograms a ++ space ∷ kilograms b ≡ kilograms c ++ space ∷ kilograms d → (a ≡ c) × (b ≡ d)
pair_same a b c d fa fb fc fd e =
    let p = parts_same 8 (kilograms a) (kilograms c) (space ∷ kilograms b) (space ∷ kilograms d) (length-kilograms a) (length-kilograms c) e in
    (kilograms_same a c fa fc p.0, kilograms_same b d fb fd (tail-eq_of_cons-eq p.1))

-- a digit is no hyphen
no_hyphens : (lo hi : ℕ) → ends (Some (lo, hi)) ≡ ends None → ⊥
unfolding ends kilograms digits
no_hyphens lo hi e = let h = head-eq_of_cons-eq e in omega arith

ends_same : (x y : Row) → RowFits x → RowFits y → ends x ≡ ends y → x ≡ y
unfolding ends
ends_same (Some (a, b)) (Some (c, d)) h l e = let p = pair_same a b c d h.0 h.1 l.0 l.1 e in rw (p.0, p.1)
ends_same (Some (a, b)) None h l e = absurd (no_hyphens a b e)
ends_same None (Some (c, d)) h l e = absurd (no_hyphens c d (sym e))
ends_same None None h l e = refl

pub legible : {xs : List ℕ} {r w r' w' : ℕ} {x y : Row} → ReadAs xs r w x → ReadAs xs r' w' y → (r ≡ r') × (w ≡ w') × (x ≡ y)
unfolding line
legible {r = r} {w} {r'} {w'} {x} {y} p q =
    let a = kilograms r ++ space ∷ kilograms w in
    let b = kilograms r' ++ space ∷ kilograms w' in
    let fields = (parts_same 35 (a ++ space ∷ ends x) (b ++ space ∷ ends y) (feed ∷ []) (feed ∷ []) (length_fields r w x) (length_fields r' w' y) (sym p.bytes ∙ q.bytes)).0 in
    let halves = parts_same 17 a b (space ∷ ends x) (space ∷ ends y) (length_pair r w) (length_pair r' w') fields in
    let loads = pair_same r w r' w' p.rear p.water q.rear q.water halves.0 in
    (loads.0, loads.1, ends_same x y p.row q.row (tail-eq_of_cons-eq halves.1))
