-- The header as it is put: the length, the version and the count, one behind the other. Assumes nothing.
use mathlib.Core.Path.{◌≡◌, ap, ◌∙◌}
use mathlib.Core.List.{List, [], ◌∷◌, ◌++◌, append_assoc}
use Prim.Native.Nat.{ℕ, ◌≤◌}
use native.Mathlib.Omega.{arith}
use lib.ListN.{length, set, length-append}
use Rattle.laws.specs.Written.{written, length-written, written_one, written_follows}
use Rattle.paper.specs.File.{bytes_of, version}
use Rattle.format.specs.Numbers.{length-bytes}
use Rattle.header.specs.Header.{header_of}

pub length_header : (n count : ℕ) → length (header_of n count) ≡ 6
length_header n count = omega (arith, length-append (bytes_of 4 n) (version ∷ bytes_of 1 count), length-bytes 4 n, length-bytes 1 count)

module _ (s : List ℕ) (n count : ℕ) (h : 6 ≤ length s) where
  pub length_sized : length (written s 0 (bytes_of 4 n)) ≡ length s
  length_sized = length-written s 0 (bytes_of 4 n) (omega (arith, length-bytes 4 n))

  versioned : set (written s 0 (bytes_of 4 n)) 4 version ≡ written s 0 (bytes_of 4 n ++ version ∷ [])
  versioned =
      written_one (written s 0 (bytes_of 4 n)) 4 version (omega (arith, length_sized))
      ∙ written_follows s (bytes_of 4 n) (version ∷ []) 4 (length-bytes 4 n) (omega arith)

  pub header_put : written (set (written s 0 (bytes_of 4 n)) 4 version) 5 (bytes_of 1 count) ≡ written s 0 (header_of n count)
  header_put =
      let five : length (bytes_of 4 n ++ version ∷ []) ≡ 5 = omega (arith, length-append (bytes_of 4 n) (version ∷ []), length-bytes 4 n) in
      ap (λ (t : List ℕ). written t 5 (bytes_of 1 count)) versioned
      ∙ written_follows s (bytes_of 4 n ++ version ∷ []) (bytes_of 1 count) 5 five (omega arith)
      ∙ ap (written s 0) (append_assoc (bytes_of 4 n) (version ∷ []) (bytes_of 1 count))

-- it leaves the buffer's length as it is
pub header_length : (s : List ℕ) (n count : ℕ) → 6 ≤ length s → length (written s 0 (header_of n count)) ≡ length s
header_length s n count h = length-written s 0 (header_of n count) (omega (arith, length_header n count))
