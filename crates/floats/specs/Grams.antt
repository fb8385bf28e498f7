-- The grams of so many kilograms are the nearest to 1000 times their exact value, even at a tie, and no other number is so.
-- Assumes nothing.
use Rattle.std.specs.Prelude.{◌≡◌, ℕ, ◌*◌}
use Rattle.std.specs.Float.{Float}
use lib.Ieee.Positive.{num, den, den_pos}
use Rattle.laws.specs.Nearest.{IsClose, closest_close, none_nearer, even_at_tie, only_close}
use Rattle.paper.specs.Indicator.{grams, IsNearest}

close : (x : Float) → IsClose (num x * 1000) (den x) (grams x)
unfolding grams
close x = closest_close (num x * 1000) (den x) (den_pos x)

pub grams_nearest : (x : Float) → IsNearest x (grams x)
grams_nearest x =
    record {
      none_nearer = none_nearer (num x * 1000) (den x) (grams x) (close x);
      even_at_tie = even_at_tie (num x * 1000) (den x) (grams x) (close x);
    }

pub only_grams : (x : Float) (g : ℕ) → IsNearest x g → g ≡ grams x
only_grams x g h =
    only_close (num x * 1000) (den x) (den_pos x) (grams x) g (close x) (h.none_nearer (grams x)) (h.even_at_tie (grams x))
