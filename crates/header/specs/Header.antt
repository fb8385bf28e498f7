-- The header of a file, as it is written and as it is judged.
use Rattle.std.specs.Prelude.{◌≡◌, Bool, true, false, ◌&&◌, List, ◌∷◌, ◌++◌, ℕ, ◌-◌, leb, eqb, length, get_or, take, drop, Option, Some, None}
use Rattle.std.specs.Borrow.{Bor}
use Rattle.paper.specs.File.{bytes_of, number_of, version, is_version}
use Rattle.header.specs.declared.Header.{Header}
use Rattle.header.specs.Versions as versions

-- the length of all that follows it, the version that is written and the count of entries
abbrev pub header_of : ℕ → ℕ → List ℕ
header_of n count = bytes_of 4 n ++ version ∷ bytes_of 1 count

-- there is room for a header, its length is right, and the version is one that is read
unfoldable pub headed : List ℕ → Bool
headed xs = leb 6 (length xs) && eqb (number_of (take 4 xs)) (length xs - 4) && is_version (get_or xs 4 0)

-- what it says, and what stands behind it; none where it is not right
abbrev pub TakesHeader : List ℕ → Option (Header × Bor (List ℕ)) → Type 0
TakesHeader xs None = headed xs ≡ false
TakesHeader xs (Some p) =
    (headed xs ≡ true) × (versions.number_of p.0.version ≡ get_or xs 4 0) × (p.0.count ≡ get_or xs 5 0) × (p.1.now ≡ drop 6 xs)
