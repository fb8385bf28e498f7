-- The values of fields, both ways: values that fit are read back from their bytes, and bytes are written back from their
-- values, by recursion on the fields. Assumes nothing.
use Rattle.std.specs.Prelude.{◌≡◌, refl, Bool, true, false, cond, ◌&&◌, List, [], ◌∷◌, ◌++◌, ℕ, suc, ◌*◌, ◌-◌, ◌^◌, ◌≤◌, ◌<◌, leb, ℤ, pos, negsuc, length, take, drop}
use Rattle.std.proofs.Common.{ap, sym, ◌∙◌, append_assoc, arith, length-append, length-drop, take-append-drop, length-take-le, take_at, drop_at, take-add, le-leb, leb-true}
use Rattle.std.proofs.Math.Option.{some, bind}
use Rattle.std.proofs.Math.Pow.{are_bytes}
use Rattle.std.proofs.Math.Seq.{drop-append_seam}
use Rattle.laws.specs.Options.{cond_passed, cond-found}
use Rattle.paper.specs.File.{Field, bytes_of, number_of, complement, field_bytes, field_value, fields_bytes, take_number, take_fields}
use Rattle.format.specs.Numbers.{bytes_take, bytes_drop, bytes-append, length-bytes, are_bytes_lem, number_bound, number_back, bytes_number}
use Rattle.format.specs.Fields.{widths, total, numbers_from, values_by}
use Rattle.format.specs.Fitting.{AllFit, done, ◌and◌}

-- ---- read back

pub number_read : (k n : ℕ) (xs : List ℕ) → n < 256 ^ k → take_number k (bytes_of k n ++ xs) ≡ some (n, xs)
unfolding take_number
number_read k n xs h =
    let l = length-bytes k n in
    rw (le-leb k (length (bytes_of k n ++ xs)) (omega (arith, l, length-append (bytes_of k n) xs)), take_at (bytes_of k n) xs k l, drop_at (bytes_of k n) xs k l, number_back k n h)

pub fields_read : (fs : List Field) (vs : List ℤ) → AllFit fs vs → (xs : List ℕ) → take_fields fs (fields_bytes fs vs ++ xs) ≡ some (vs, xs)
unfolding take_fields fields_bytes field_bytes bind
fields_read [] [] done xs = refl
fields_read [] (v ∷ vs) h xs = elim h [ ]
fields_read (f ∷ fs) [] h xs = elim h [ ]
fields_read (f ∷ fs) (v ∷ vs) (h and t) xs =
    let n = complement f.width v in
    rw (append_assoc (bytes_of f.width n) (fields_bytes fs vs) xs, number_read f.width n (fields_bytes fs vs ++ xs) h.small, fields_read fs vs t xs, h.reads)

-- ---- written back

-- what stands behind bytes in a list of bytes
pub bytes-behind : (xs ys : List ℕ) → are_bytes (xs ++ ys) ≡ true → are_bytes ys ≡ true
bytes-behind xs ys h = rw (drop-append_seam xs ys) at (bytes_drop (length xs) (xs ++ ys) h)

complement_by : (t : Bool) (k n : ℕ) → n < 256 ^ k → complement k (cond t (negsuc (256 ^ k - suc n)) (pos n)) ≡ n
complement_by true k n h = omega arith
complement_by false k n h = refl

complement_back : (f : Field) (n : ℕ) → n < 256 ^ f.width → complement f.width (field_value f n) ≡ n
unfolding field_value
complement_back f n h = complement_by (f.signed && leb (256 ^ f.width) (2 * n)) f.width n h

part-written : (k : ℕ) (xs : List ℕ) → are_bytes xs ≡ true → k ≤ length xs → bytes_of k (number_of (take k xs)) ≡ take k xs
part-written k xs b h = rw (length-take-le k xs h) at (bytes_number (take k xs) (bytes_take k xs b))

pub number_written : (k : ℕ) (xs : List ℕ) (n : ℕ) (ys : List ℕ) → are_bytes xs ≡ true → take_number k xs ≡ some (n, ys) → xs ≡ bytes_of k n ++ ys
unfolding take_number
number_written k xs n ys b h =
    let t = leb k (length xs) in
    let found : ℕ × List ℕ = (number_of (take k xs), drop k xs) in
    let room = leb-true k (length xs) (cond_passed t (some found) (n, ys) h) in
    let p : found ≡ (n, ys) = cond-found t found (n, ys) h in
    let back : bytes_of k (number_of (take k xs)) ++ drop k xs ≡ xs = rw (part-written k xs b room) (take-append-drop k xs) in
    sym back ∙ ap (λ (z : ℕ × List ℕ). bytes_of k z.0 ++ z.1) p

pub fields_written : (fs : List Field) (xs : List ℕ) → are_bytes xs ≡ true → total (widths fs) ≤ length xs → fields_bytes fs (values_by fs (numbers_from (widths fs) xs)) ≡ take (total (widths fs)) xs
unfolding fields_bytes field_bytes values_by numbers_from widths total
fields_written [] xs b h = refl
fields_written (f ∷ fs) xs b h =
    let k = f.width in
    let n = number_of (take k xs) in
    let l : k ≤ length xs = omega arith in
    let m : n < 256 ^ k = rw (length-take-le k xs l) at (number_bound (take k xs) (bytes_take k xs b)) in
    let rest = fields_written fs (drop k xs) (bytes_drop k xs b) (omega (arith, length-drop k xs)) in
    rw (complement_back f n m, part-written k xs b l, rest, take-add k (total (widths fs)) xs)

-- ---- what is written

pub fields_are_bytes : (fs : List Field) (vs : List ℤ) → are_bytes (fields_bytes fs vs) ≡ true
unfolding fields_bytes field_bytes
fields_are_bytes [] vs = refl
fields_are_bytes (f ∷ fs) [] = refl
fields_are_bytes (f ∷ fs) (v ∷ vs) = bytes-append (bytes_of f.width (complement f.width v)) (fields_bytes fs vs) (are_bytes_lem f.width (complement f.width v)) (fields_are_bytes fs vs)

pub fields_length : (fs : List Field) (vs : List ℤ) → length vs ≡ length fs → length (fields_bytes fs vs) ≡ total (widths fs)
unfolding fields_bytes field_bytes widths total
fields_length [] vs h = refl
fields_length (f ∷ fs) [] h = absurd (omega arith)
fields_length (f ∷ fs) (v ∷ vs) h =
    rw (length-append (bytes_of f.width (complement f.width v)) (fields_bytes fs vs), length-bytes f.width (complement f.width v), fields_length fs vs (omega arith))
