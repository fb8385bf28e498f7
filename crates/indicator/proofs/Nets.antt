-- A reading's net: finite as std has it, and a difference that may be below nought. Assumes nothing.
use Rattle.std.specs.Prelude.{◌≡◌, refl, cond, ℕ, ◌-◌, ◌≤◌, pos, ◌-ℤ◌, nat_abs, Option, None, Some, Ok, Err, ok_or, SomeIff}
use Rattle.std.specs.Int.Signed.{lt_z}
use Rattle.std.specs.Float.{Float, nan, inf, fin, float_is_finite}
use Rattle.std.proofs.Common.{arith}
use lib.Ieee.Scale.{finite}
use Rattle.paper.specs.declared.Refusal.TheVariants as refusal

pub finite_is : (x : Float) → float_is_finite x ≡ finite x
unfolding float_is_finite
finite_is nan = refl
finite_is (inf s) = refl
finite_is (fin s m e) = refl

pub taken_off : (o : Option ℕ) (a b : ℕ) → SomeIff o (b ≤ a) (a - b)
    → ok_or o refusal.Load ≡ cond (lt_z (pos a -ℤ pos b) (pos 0)) (Err refusal.Load) (Ok (nat_abs (pos a -ℤ pos b)))
taken_off None a b h = grind arith
taken_off (Some n) a b h = grind arith
