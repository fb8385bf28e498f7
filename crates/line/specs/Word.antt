-- Numbers side by side in one number, each in a lane of its own, the first in the lowest.
use Rattle.std.specs.Prelude.{◌≡◌, List, [], ◌∷◌, map, ℕ, zero, suc, ◌+◌, ◌*◌, ◌/◌, ◌%◌, ◌<◌, length}
use Rattle.laws.specs.Lists.{Each}

-- some numbers as one, each counting `base` times as much as the one before
abbrev pub packed : ℕ → List ℕ → ℕ
packed base [] = 0
packed base (x ∷ xs) = x + base * packed base xs

-- the number of some bytes, the first counting least
unfoldable pub word : List ℕ → ℕ
word xs = packed 256 xs

-- the first k lanes of a number, and of each what is left by `keep`
abbrev pub lanes : ℕ → ℕ → ℕ → ℕ → List ℕ
lanes base keep zero x = []
lanes base keep (suc k) x = x % keep ∷ lanes base keep k (x / base)

-- the eight bytes of a word, the lowest first
unfoldable pub bytes : ℕ → List ℕ
bytes x = lanes 256 256 8 x

-- x is k numbers as one, each below `most`
pub record Packed (base k most x : ℕ) : Type 0 where
  pub parts : List ℕ
  pub count : length parts ≡ k
  pub small : Each (λ (y : ℕ). y < most) parts
  pub whole : x ≡ packed base parts

-- the quotients by d; and each with what is left behind it
abbrev pub quotients : ℕ → List ℕ → List ℕ
quotients d xs = map (λ (x : ℕ). x / d) xs

abbrev pub apart : ℕ → List ℕ → List ℕ
apart d [] = []
apart d (x ∷ xs) = x / d ∷ x % d ∷ apart d xs
