-- Half-planes of front load and water: what it is to keep one, some of them, and which of them say what a row's limits say.
use Rattle.std.specs.Prelude.{◌≡◌, Bool, true, ◌&&◌, List, [], ◌∷◌, ℕ, ◌+◌, ◌*◌, leb, ℤ}
use Rattle.paper.specs.declared.Sheet.{Sheet}
use Rattle.paper.specs.declared.Seat.{Seat}
use Rattle.paper.specs.Record.{Balance}
use Rattle.paper.specs.Rows.{every_arm, keeps_at}

-- a limit of front load p and water v: alpha0 + v * alpha1 + beta * p is at least gamma0 + v * gamma1 + delta * p
pub record HalfPlane : Type 0 where
  pub alpha0 : ℕ
  pub alpha1 : ℕ
  pub beta : ℕ
  pub gamma0 : ℕ
  pub gamma1 : ℕ
  pub delta : ℕ

-- front load p keeps a half-plane with water v aboard
unfoldable pub holds : HalfPlane → ℕ → ℕ → Bool
holds l p v =
    leb (l.gamma0 + v * l.gamma1 + l.delta * p) (l.alpha0 + v * l.alpha1 + l.beta * p)

-- it keeps each of some
unfoldable pub all_hold : List HalfPlane → ℕ → ℕ → Bool
all_hold [] p v = true
all_hold (l ∷ ls) p v = holds l p v && all_hold ls p v

-- a row's limits hold with v aboard, at every arm of the seat
unfoldable pub kept_at : Sheet → Seat → Balance → ℕ → ℕ → ℕ → Bool
kept_at s f b r p v = every_arm f (λ (arm : ℤ). keeps_at s arm b r p v)

-- some half-planes say what a test of front load and water says, as that of a row's limits (`kept_at`)
abbrev pub Says : List HalfPlane → (ℕ → ℕ → Bool) → Type 0
Says ls q = (p v : ℕ) → q p v ≡ all_hold ls p v
