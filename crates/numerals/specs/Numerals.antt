-- A whole number as a word of text: decimal digits without needless noughts, with a minus in front of one below 0. And the
-- number of a word, which of a word that is no number is some number.
use Rattle.std.specs.Prelude.{cond, List, [], ◌∷◌, ℕ, zero, suc, ◌+◌, ◌*◌, ◌-◌, ◌/◌, ◌%◌, ◌^◌, leb, eqb, ℤ, pos, negsuc, neg_ℤ, length, take}
use Rattle.paper.specs.Placard.{hyphen, nought, digits}

-- how many digits a number takes: one, and those of its tenth part where that is not 0
unfoldable pub places_in : ℕ → ℕ → ℕ
places_in zero n = 1
places_in (suc k) n = cond (leb 10 n) (suc (places_in k (n / 10))) 1

-- a number below 2 ^ 64 takes at most twenty
abbrev pub places : ℕ → ℕ
places n = places_in 19 n

unfoldable pub decimal : ℕ → List ℕ
decimal n = digits (places n) n

unfoldable pub numeral : ℤ → List ℕ
numeral (pos n) = decimal n
numeral (negsuc n) = hyphen ∷ decimal (suc n)

-- ---- the number of a word

-- what a digit counts
unfoldable pub digit_of : ℕ → ℕ
digit_of x = (x - nought) % 10

unfoldable pub size_of : List ℕ → ℕ
size_of [] = 0
size_of (x ∷ xs) = digit_of x * 10 ^ length xs + size_of xs

-- a number has at most so many digits; what stands behind them is not looked at
abbrev pub most_digits : ℕ
most_digits = 18

unfoldable pub value_of : List ℕ → ℤ
value_of [] = pos 0
value_of (x ∷ xs) = cond (eqb x hyphen) (neg_ℤ (pos (size_of (take most_digits xs)))) (pos (size_of (take most_digits (x ∷ xs))))
