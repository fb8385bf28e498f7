-- "The placard": its bytes and its counts.
use Rattle.std.specs.Prelude.{◌≡◌, cond, Some, None, List, [], ◌∷◌, ◌++◌, map, ℕ, zero, suc, ◌+◌, ◌*◌, ◌/◌, ◌%◌, ◌^◌, ◌<◌, replicate, take, drop}
use Rattle.paper.specs.declared.Sheet.{Sheet}
use Rattle.paper.specs.declared.Seat.{Seat}
use Rattle.paper.specs.Record.{Balance}
use Rattle.paper.specs.Rows.{Row, row, is_blank, row_count, joined, loads}

-- the bytes of a space, a line feed, a hyphen, a point and the digit 0
abbrev pub space : ℕ
space = 32

abbrev pub feed : ℕ
feed = 10

abbrev pub hyphen : ℕ
hyphen = 45

abbrev pub point : ℕ
point = 46

abbrev pub nought : ℕ
nought = 48

-- the last k decimal digits of n
unfoldable pub digits : ℕ → ℕ → List ℕ
digits zero n = []
digits (suc k) n = (nought + n / 10 ^ k % 10) ∷ digits k n

-- a load in grams as four digits of kilograms, a point and three of grams
unfoldable pub kilograms : ℕ → List ℕ
kilograms n = digits 4 (n / 1000) ++ point ∷ digits 3 (n % 1000)

-- the last two fields of a line: both ends, or eight hyphens for each
unfoldable pub ends : Row → List ℕ
ends (Some (lo, hi)) = kilograms lo ++ space ∷ kilograms hi
ends None = replicate 8 hyphen ++ space ∷ replicate 8 hyphen

-- a line: rear load, water, smallest and largest front load, with one space between, and a line feed
unfoldable pub line : ℕ → ℕ → Row → List ℕ
line r w x = kilograms r ++ space ∷ kilograms w ++ space ∷ ends x ++ feed ∷ []

-- four digits of kilograms are enough for a load, and for both ends of a row
abbrev pub Fits : ℕ → Type 0
Fits n = n < 10000000

abbrev pub RowFits : Row → Type 0
RowFits (Some (lo, hi)) = Fits lo × Fits hi
RowFits None = Unit {0}

-- some bytes can be read as a rear load, water and a row: they are the line of them, and each fits its field
pub record ReadAs (xs : List ℕ) (r w : ℕ) (x : Row) : Type 0 where
  pub bytes : xs ≡ line r w x
  pub rear : Fits r
  pub water : Fits w
  pub row : RowFits x

-- how many bytes a line has
abbrev pub line_length : ℕ
line_length = 36

-- the i-th line in a buffer
abbrev pub line_in : List ℕ → ℕ → List ℕ
line_in buffer i = take line_length (drop (line_length * i) buffer)

-- the placard: a line for each row, in the rows' order
unfoldable pub text : Sheet → Seat → Balance → List ℕ
text s f b = joined (map (λ (x : ℕ × ℕ). line x.0 x.1 (row s f b x.0 x.1)) (loads s))

-- how many bytes it has, by its rows
unfoldable pub text_length : Sheet → ℕ
text_length s = line_length * row_count s

-- how many of some rows are blank
unfoldable pub blank_of : List Row → ℕ
blank_of [] = 0
blank_of (x ∷ xs) = cond (is_blank x) (suc (blank_of xs)) (blank_of xs)

-- how many rows of the placard have no front load that is good
unfoldable pub blank_count : Sheet → Seat → Balance → ℕ
blank_count s f b = blank_of (map (λ (x : ℕ × ℕ). row s f b x.0 x.1) (loads s))
