-- A load-cell indicator (paper 02, card 6): what nine bytes say, the whole grams of a float's kilograms, the net of a reading with
-- its cell, and the paired weighing that four such readings feed.
--
-- A float is the logic's own: a NaN, an infinity, or `fin s k e`, the number k · 2 ^ e, below nought where s is true. Its size is
-- the fraction `num` / `den`. `lt` compares the numbers themselves, so that minus nought is nought, and is false of a NaN.
use Rattle.std.specs.Prelude.{◌≡◌, Bool, false, cond, not, ◌&&◌, ◌||◌, ◌⊎◌, List, ℕ, ◌*◌, ◌%◌, ◌≤◌, eqb, ℤ, pos, ◌-ℤ◌, nat_abs, length, get_or, drop, Option, Some, None, is_none, from_bits}
use Rattle.std.specs.Float.{Float, fin, binary64}
use lib.Ieee.{lt}
use lib.Ieee.Nearest.{closest}
use lib.Ieee.Positive.{num, den}
use lib.Ieee.Scale.{finite}
use Rattle.std.specs.Int.Signed.{lt_z}
use Rattle.paper.specs.declared.Paired.{Paired}
use Rattle.paper.specs.declared.Reading.{Reading}
use Rattle.paper.specs.declared.Reading.TheVariants.{Stable, Moving, Over}
use Rattle.paper.specs.declared.Cell.{Cell}
use Rattle.paper.specs.declared.Message.{Message}
use Rattle.paper.specs.declared.Indicated.{Indicated}
use Rattle.paper.specs.File.{number_of}

-- ---- kilograms

-- 0 and 2000 kg, which is 125 · 2 ^ 4
abbrev pub nought : Float
nought = fin false 0 (pos 0)

abbrev pub most_kilograms : Float
most_kilograms = fin false 125 (pos 4)

-- a number that is not below nought and not above 2000 kg
unfoldable pub is_load : Float → Bool
is_load x = finite x && not (lt x nought) && not (lt most_kilograms x)

-- the grams of so many kilograms: 1000 times the exact value to the nearest whole number, a tie going to the even one
unfoldable pub grams : Float → ℕ
grams x = closest (num x * 1000) (den x)

-- how far g grams are from x kilograms, in parts of 1 / den x of a gram
abbrev pub apart : Float → ℕ → ℕ
apart x g = nat_abs (pos (num x * 1000) -ℤ pos (g * den x))

-- what the grams are: no other whole number is nearer, and where one is as near they are even. No other number is so
pub record IsNearest (x : Float) (g : ℕ) : Type 0 where
  pub none_nearer : (h : ℕ) → apart x g ≤ apart x h
  pub even_at_tie : (h : ℕ) → apart x h ≡ apart x g → (h ≡ g) ⊎ (g % 2 ≡ 0)

-- ---- a reading

-- by its state: 1 stable, 2 moving, 3 over
abbrev pub reading_by : ℕ → Float → Option Reading
reading_by state x =
    cond (eqb state 1) (Some (Stable x)) (cond (eqb state 2) (Some (Moving x)) (cond (eqb state 3) (Some Over) None))

-- what some bytes say: nine of them, the state and the float whose pattern the other eight spell
unfoldable pub reading_of : List ℕ → Option Reading
reading_of s =
    cond (eqb (length s) 9) (reading_by (get_or s 0 0) (from_bits binary64 (number_of (drop 1 s)))) None

-- the kilograms of a reading that is stable
abbrev pub stable : Option Reading → Option Float
stable None = None
stable (Some (Stable x)) = Some x
stable (Some (Moving x)) = None
stable (Some Over) = None

-- ---- a reading with its cell

-- the bytes that were sent, and the cell that they are of
pub record Sent : Type 0 where
  pub bytes : List ℕ
  pub cell : Cell

-- its kilograms, where it is a stable reading
unfoldable pub kilograms_of : Sent → Option Float
kilograms_of s = stable (reading_of s.bytes)

-- the net, in grams: the zero's are taken off the reading's, or, turned round, the reading's off the zero's
unfoldable pub net : Bool → Cell → Float → ℤ
net turned c x = cond turned (pos (grams c.zero) -ℤ pos (grams x)) (pos (grams x) -ℤ pos (grams c.zero))

-- 13: not nine bytes, a state other than 1 to 3, moving or over
unfoldable pub unsteady : Sent → Bool
unsteady s = is_none (kilograms_of s)

-- 14: the rating is not finite, the reading or the zero is no number from nought to 2000 kg, the reading is above the rating, or
-- the net is below nought
unfoldable pub bad_load : Bool → Cell → Float → Bool
bad_load turned c x =
    not (finite c.rated) || not (is_load x) || not (is_load c.zero) || lt c.rated x || lt_z (net turned c x) (pos 0)

-- the same of what is sent; 13 goes before it where that is no stable reading
abbrev pub bad_by : Bool → Cell → Option Float → Bool
bad_by turned c None = false
bad_by turned c (Some x) = bad_load turned c x

unfoldable pub out_of_range : Bool → Sent → Bool
out_of_range turned s = bad_by turned s.cell (kilograms_of s)

-- the grams that count, where neither 13 nor 14 does
abbrev pub net_by : Bool → Cell → Option Float → ℕ
net_by turned c None = 0
net_by turned c (Some x) = nat_abs (net turned c x)

unfoldable pub net_of : Bool → Sent → ℕ
net_of turned s = net_by turned s.cell (kilograms_of s)

-- g is what a reading counts: it is stable, it is in its ranges with its cell, and g is the net to the gram
pub record Counts (turned : Bool) (s : Sent) (g : ℕ) : Type 0 where
  pub kilograms : Float
  pub shown : kilograms_of s ≡ Some kilograms
  pub in_range : bad_load turned s.cell kilograms ≡ false
  pub net_is : pos g ≡ net turned s.cell kilograms

-- ---- four readings

-- a weighing as it is sent: m, the readings p, q, p' and q', a, b and n
pub record SentWeighing : Type 0 where
  pub m : ℕ
  pub p : Sent
  pub q : Sent
  pub p2 : Sent
  pub q2 : Sent
  pub a : ℤ
  pub b : ℕ
  pub n : ℕ

-- q and q' of method 4 are turned round, since their zero holds the jury ballast
abbrev pub is_turned : SentWeighing → Bool
is_turned x = eqb x.m 4

-- a condition holds of any of the four
abbrev pub any_of : (Bool → Sent → Bool) → SentWeighing → Bool
any_of bad x = bad false x.p || bad (is_turned x) x.q || bad false x.p2 || bad (is_turned x) x.q2

-- the paired weighing that they feed
unfoldable pub paired_of : SentWeighing → Paired
paired_of x =
    record {
      m = x.m;
      p = net_of false x.p;
      q = net_of (is_turned x) x.q;
      p2 = net_of false x.p2;
      q2 = net_of (is_turned x) x.q2;
      a = x.a;
      b = x.b;
      n = x.n;
    }

-- ---- what is lent to a call

abbrev pub sent : Message → Sent
sent s = record { bytes = s.bytes.now; cell = s.cell }

unfoldable pub sent_by : Indicated → SentWeighing
sent_by x =
    record { m = x.m; p = sent x.p; q = sent x.q; p2 = sent x.p2; q2 = sent x.q2; a = x.a; b = x.b; n = x.n }
