-- "Units": what a weight and an arm may be. Weights are given in whole grams and reckoned with in half grams; arms are whole
-- hundredths of a millimetre, positive aft of the datum; a moment is a weight times an arm.
use Rattle.std.specs.Prelude.{Bool, ◌&&◌, ℕ, leb, ℤ, pos, neg_ℤ, ◌*ℤ◌}
use Rattle.std.specs.Int.Signed.{le_z}

-- x is one of lo, lo + 1, .. hi
abbrev pub between : ℤ → ℤ → ℤ → Bool
between lo hi x = le_z lo x && le_z x hi

-- a weight is at most 2,000,000 g, wherever one is asked for
unfoldable pub is_weight : ℕ → Bool
is_weight x = leb x 2000000

-- an arm lies from -2,000,000 to 2,000,000, wherever one is asked for
unfoldable pub is_arm : ℤ → Bool
is_arm x = between (neg_ℤ (pos 2000000)) (pos 2000000) x

-- grams as half grams (paper 02, card 1): the sums over two readings are in half grams, and here every other weight and weight
-- limit is doubled with them
unfoldable pub half_grams : ℤ → ℤ
half_grams c = pos 2 *ℤ c
