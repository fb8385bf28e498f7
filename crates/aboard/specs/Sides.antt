-- The safe aft limit, and the bounds that keep what is carried in its words.
use Rattle.std.specs.Prelude.{◌≡◌, ℕ, ◌+◌, ◌*◌, ℤ, pos, ◌+ℤ◌, ◌*ℤ◌}
use Rattle.laws.specs.declared.Sides.{Sides}
use Rattle.laws.specs.Sides.{value_of, Below}
use Rattle.paper.specs.declared.Sheet.{Sheet}

-- 20 times the safe aft limit: 19 AFT + FWD
abbrev pub safe_arm : Sheet → ℤ
safe_arm s = pos 19 *ℤ s.aft +ℤ s.fwd

-- it is z, and each side is at most n
pub record Sided (n : ℕ) (z : ℤ) (x : Sides) : Type 0 where
  pub value : value_of x ≡ z
  pub range : Below n x

-- a moment with k steps of water aboard
abbrev pub room : ℕ → ℕ
room k = 66000000000000000 + k * 160000000000000
