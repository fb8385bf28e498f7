-- Numbers as bytes, the highest first: the bytes of a number spell it, and the number that some bytes spell has just them.
-- Assumes nothing.
use Rattle.std.specs.Prelude.{◌≡◌, refl, true, List, [], ◌∷◌, ◌++◌, ℕ, zero, suc, ◌+◌, ◌*◌, ◌/◌, ◌%◌, ◌^◌, ◌<◌, ltb, length, get_or, take, drop}
use Rattle.std.proofs.Common.{◌∙◌, suc-le-suc, zero-lt-suc, mul_assoc, mod-lt, mod-eq_of_lt, ltb-true, lt-ltb}
use Rattle.std.proofs.Math.Nat.{one-le-pow, pow-succ', mul-add-div_right, mul-add-mod_self_right}
use Rattle.std.proofs.Math.Arith.{digits_div}
use Rattle.std.proofs.Math.Pow.{are_bytes}
use Rattle.laws.specs.Spelled.{Spelling, length_spelled, Reading, read_more, read_bound, read_spelled}
use Rattle.laws.specs.Lists.{Each}
use Rattle.laws.specs.Tests.{both, left, right}
use Rattle.paper.specs.File.{bytes_of, number_of}

-- ---- lists of bytes

pub bytes_take : (k : ℕ) (xs : List ℕ) → are_bytes xs ≡ true → are_bytes (take k xs) ≡ true
bytes_take zero xs h = refl
bytes_take (suc k) [] h = refl
bytes_take (suc k) (x ∷ xs) h =
    both (ltb x 256) (are_bytes (take k xs)) (left (ltb x 256) (are_bytes xs) h) (bytes_take k xs (right (ltb x 256) (are_bytes xs) h))

pub bytes_drop : (k : ℕ) (xs : List ℕ) → are_bytes xs ≡ true → are_bytes (drop k xs) ≡ true
bytes_drop zero xs h = h
bytes_drop (suc k) [] h = refl
bytes_drop (suc k) (x ∷ xs) h = bytes_drop k xs (right (ltb x 256) (are_bytes xs) h)

pub bytes-append : (xs ys : List ℕ) → are_bytes xs ≡ true → are_bytes ys ≡ true → are_bytes (xs ++ ys) ≡ true
bytes-append [] ys h k = k
bytes-append (x ∷ xs) ys h k =
    both (ltb x 256) (are_bytes (xs ++ ys)) (left (ltb x 256) (are_bytes xs) h) (bytes-append xs ys (right (ltb x 256) (are_bytes xs) h) k)

-- each element is below 256
pub bytes_at : (xs : List ℕ) → ((i : ℕ) → i < length xs → get_or xs i 0 < 256) → are_bytes xs ≡ true
bytes_at [] h = refl
bytes_at (x ∷ xs) h =
    both (ltb x 256) (are_bytes xs) (lt-ltb x 256 (h zero (zero-lt-suc (length xs)))) (bytes_at xs (λ i l. h (suc i) (suc-le-suc l)))

-- ---- the bytes of a number

pow_pos : (k : ℕ) → 0 < 256 ^ k
pow_pos k = one-le-pow k 256 (zero-lt-suc 255)

-- they are the digits in base 256
pub bytes : Spelling bytes_of (λ (x : ℕ). x) 256
unfolding bytes_of
bytes = record { none = λ n. refl; more = λ k n. refl }

pub length-bytes : (k n : ℕ) → length (bytes_of k n) ≡ k
length-bytes = length_spelled bytes

pub are_bytes_lem : (k n : ℕ) → are_bytes (bytes_of k n) ≡ true
unfolding bytes_of
are_bytes_lem zero n = refl
are_bytes_lem (suc k) n =
    both (ltb (n / 256 ^ k % 256) 256) (are_bytes (bytes_of k n)) (lt-ltb (n / 256 ^ k % 256) 256 (mod-lt (n / 256 ^ k) (zero-lt-suc 255))) (are_bytes_lem k n)

-- what stands above them does not matter
pub bytes_low : (k m n : ℕ) → bytes_of k (m * 256 ^ k + n) ≡ bytes_of k n
unfolding bytes_of
bytes_low zero m n = refl
bytes_low (suc k) m n =
    rw (pow-succ' 256 k, ← mul_assoc m 256 (256 ^ k), mul-add-div_right (pow_pos k) (m * 256) n, mul-add-mod_self_right m 256 (n / 256 ^ k), bytes_low k (m * 256) n)

-- ---- the number that bytes spell

-- they are read as they are spelled
reading : Reading number_of (λ (x : ℕ). x) 256
unfolding number_of
reading = record { none = refl; more = λ x xs. refl }

-- one more byte
pub number_more : (xs : List ℕ) (x : ℕ) → number_of (xs ++ x ∷ []) ≡ number_of xs * 256 + x
number_more = read_more reading

each_byte : (xs : List ℕ) → are_bytes xs ≡ true → Each (λ (x : ℕ). x < 256) xs
each_byte [] h = tt
each_byte (x ∷ xs) h = (ltb-true x 256 (left (ltb x 256) (are_bytes xs) h), each_byte xs (right (ltb x 256) (are_bytes xs) h))

pub number_bound : (xs : List ℕ) → are_bytes xs ≡ true → number_of xs < 256 ^ length xs
number_bound xs h = read_bound reading (zero-lt-suc 255) xs (each_byte xs h)

-- ---- there and back

pub number_bytes : (k n : ℕ) → number_of (bytes_of k n) ≡ n % 256 ^ k
number_bytes = read_spelled reading bytes (λ x h. refl) (zero-lt-suc 255)

pub number_back : (k n : ℕ) → n < 256 ^ k → number_of (bytes_of k n) ≡ n
number_back k n h = number_bytes k n ∙ mod-eq_of_lt h

pub bytes_number : (xs : List ℕ) → are_bytes xs ≡ true → bytes_of (length xs) (number_of xs) ≡ xs
unfolding bytes_of number_of
bytes_number [] h = refl
bytes_number (x ∷ xs) h =
    let l = right (ltb x 256) (are_bytes xs) h in
    rw (
      digits_div x (number_bound xs l),
      mod-eq_of_lt (ltb-true x 256 (left (ltb x 256) (are_bytes xs) h)),
      bytes_low (length xs) x (number_of xs),
      bytes_number xs l,
    )
