-- `line::field` meets its contract: kilograms and grams are two numbers, their hundreds and what is left four of two digits,
-- and tens and ones the eight digits, that of the point a nought. Assumes nothing.
use mathlib.Core.Path.{◌≡◌, refl}
use mathlib.Core.List.{[], ◌∷◌}
use Prim.Native.Nat.{ℕ, ◌+◌, ◌*◌, ◌^◌, ◌/◌, ◌%◌}
use native.Mathlib.Omega.{arith}
use Rattle.paper.specs.Placard.{digits, kilograms, Fits}
use Rattle.line.specs.Word.{packed, word, Packed, apart}
use Rattle.line.proofs.Fields.{spelled}
use Rattle.line.proofs.field.Goals as goal

-- kilograms and grams, in a half each
abbrev halves : (n a b : ℕ) → Fits n → a ≡ n / 1000 → b ≡ n % 1000 → Packed (2 ^ 32) 2 10000 (a + b * 4294967296)
halves n a b f k g = record { parts = n / 1000 ∷ n % 1000 ∷ []; count = refl; small = omega arith; whole = omega (arith, k, g) }

-- two digits in each quarter
abbrev two_digits : (n z : ℕ) → Fits n → z ≡ packed (2 ^ 16) (apart 100 (n / 1000 ∷ n % 1000 ∷ [])) → Packed (2 ^ 16) 4 100 z
two_digits n z f e = record { parts = apart 100 (n / 1000 ∷ n % 1000 ∷ []); count = refl; small = omega arith; whole = e }

pub quarters-z-requires : goal.quarters-z-requires
quarters-z-requires c = halves c.args.n _ _ c.requires c.from.ensures c.from-2.ensures

pub eighths-requires : goal.eighths-requires
eighths-requires c =
    let n = c.args.n in
    two_digits n c.quarters-z.result c.requires (c.quarters-z.ensures (halves n _ _ c.requires c.from.ensures c.from-2.ensures))

pub returns : goal.returns
unfolding word kilograms digits
returns c =
    let n = c.args.n in
    rw (c.eighths.ensures.1 (two_digits n c.quarters-z.result c.requires (c.quarters-z.ensures (halves n _ _ c.requires c.from.ensures c.from-2.ensures))))
    (spelled n c.requires)
