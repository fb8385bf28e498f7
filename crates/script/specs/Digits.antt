-- The numbers and the bytes that a case's digits are.
use Rattle.std.specs.Prelude.{◌≡◌, ℕ, ◌+◌, ◌-◌, ◌*◌, ◌%◌, nat_le, if◌then◌else◌, List, [], ◌∷◌, slice_index, EachIndex}
use Rattle.std.specs.Char.{is_ascii_digit}

-- the number of the digits that a text begins with, behind those of a number; it keeps ten
unfoldable pub digits_from : ℕ → List ℕ → ℕ
digits_from n [] = n
digits_from n (x ∷ xs) = if is_ascii_digit x then digits_from (n % 1000000000 * 10 + (x - 48)) xs else n

-- the value of a digit of sixteen; what is none has one too
abbrev pub sixteen : ℕ → ℕ
sixteen x = if nat_le 97 x then (x % 16 + 9) % 16 else x % 16

-- bytes that a text's first digits of sixteen spell, two for each
abbrev pub Spells : List ℕ → List ℕ → Type 0
Spells xs bytes = EachIndex bytes (λ k. slice_index bytes k ≡ sixteen (slice_index xs (2 * k)) * 16 + sixteen (slice_index xs (2 * k + 1)))
