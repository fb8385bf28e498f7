-- A field's eight bytes as a word, and the bytes of the word put into a buffer one by one. Assumes nothing.
use mathlib.Core.Path.{◌≡◌, sym, ◌∙◌}
use mathlib.Core.List.{List, [], ◌∷◌, ◌++◌, map-id}
use Prim.Native.Nat.{ℕ, zero, suc, ◌+◌, ◌/◌, ◌%◌, ◌^◌, ◌≤◌, ◌<◌}
use native.Mathlib.Nat.{div-div-eq-div-mul}
use native.Mathlib.Omega.{arith}
use lib.ListN.{length, set, length-set}
use Rattle.laws.specs.Lists.{tabulate, Each, each_append}
use Rattle.laws.specs.Written.{written, written_none, written_behind}
use Rattle.paper.specs.Placard.{space, point, digits, kilograms, Fits}
use Rattle.line.specs.Word.{packed, word, bytes, apart}
use Rattle.line.proofs.Length.{length-kilograms}
use Rattle.line.proofs.Lanes.{Lanewise, each_lane}

-- ---- the word of a field

-- four digits, two by two
pairs : (x : ℕ) → x < 10000 → (x / 1000 % 10 ≡ x / 100 / 10) × (x / 10 % 10 ≡ x % 100 / 10) × (x / 1 % 10 ≡ x % 100 % 10)
pairs x h = omega arith

-- the digits are added to the field of a load of 0
pub spelled : (n : ℕ) → Fits n → packed (2 ^ 8) (apart 10 (apart 100 (n / 1000 ∷ n % 1000 ∷ []))) + word (kilograms 0) ≡ word (kilograms n)
unfolding word kilograms digits
spelled n h =
    let k = pairs (n / 1000) (omega arith) in
    let g = pairs (n % 1000) (omega arith) in
    let e : n % 1000 / 100 / 10 ≡ 0 = omega arith in
    rw (k.0, k.1, k.2, g.1, g.2, e) (omega arith)

-- ---- the bytes of a word

same_bytes : Lanewise (2 ^ 8) 256 256 (λ (x : ℕ). x) (λ (x : ℕ). x)
same_bytes = record { here = λ x y h. omega arith; above = λ x y h. omega arith }

bytes_word : (xs : List ℕ) → length xs ≡ 8 → Each (λ (x : ℕ). x < 256) xs → bytes (word xs) ≡ xs
unfolding bytes word
bytes_word xs n e = rw n at (each_lane same_bytes xs e) ∙ map-id xs

digits_small : (k n : ℕ) → Each (λ (x : ℕ). x < 256) (digits k n)
unfolding digits
digits_small zero n = tt
digits_small (suc k) n = (omega arith, digits_small k n)

bytes-kilograms : (n : ℕ) → bytes (word (kilograms n)) ≡ kilograms n
unfolding kilograms
bytes-kilograms n =
    bytes_word (kilograms n) (length-kilograms n)
    (each_append (λ (x : ℕ). x < 256) (digits 4 (n / 1000)) (point ∷ digits 3 (n % 1000)) (digits_small 4 (n / 1000)) (omega arith, digits_small 3 (n % 1000)))

-- two fields, by their words
pub pair_written : (s last : List ℕ) (a b r w : ℕ) → a ≡ word (kilograms r) → b ≡ word (kilograms w) → last ≡ written s 0 (bytes a ++ space ∷ bytes b) → last ≡ written s 0 (kilograms r ++ space ∷ kilograms w)
pair_written s last a b r w e f l = rw (e, f, bytes-kilograms r, bytes-kilograms w) at l

-- ---- stores one after the other

abbrev pub sets : List ℕ → ℕ → List ℕ → List ℕ
sets s k [] = s
sets s k (x ∷ xs) = sets (set s k x) (k + 1) xs

sets-written : (s : List ℕ) (k : ℕ) (xs : List ℕ) → k + length xs ≤ length s → sets s k xs ≡ written s k xs
sets-written s k [] h = sym (written_none s k)
sets-written s k (x ∷ xs) h =
    sets-written (set s k x) (k + 1) xs (simp length-set (omega arith)) ∙ written_behind s k x xs (omega arith)

-- the eight bytes
pub bytes-written : (s : List ℕ) (x : ℕ) → 8 ≤ length s → sets (set s 0 (x % 256)) 1 (tabulate 7 (λ (i : ℕ). x / 256 ^ suc i % 256)) ≡ written s 0 (bytes x)
unfolding bytes
bytes-written s x h =
    let xs = tabulate 7 (λ (i : ℕ). x / 256 ^ suc i % 256) in
    sets-written (set s 0 (x % 256)) 1 xs (simp length-set (omega arith))
    ∙ written_behind s 0 (x % 256) xs (omega arith)
    ∙ simp div-div-eq-div-mul
