-- Fields as lists of widths and numbers: what is read and written of them in closed form, by recursion on the fields.
-- Assumes nothing.
use Rattle.std.specs.Prelude.{◌≡◌, refl, cond, List, [], ◌∷◌, ◌++◌, ℕ, suc, ◌+◌, leb, ℤ, length, take, drop}
use Rattle.std.proofs.Common.{sym, ap, append-nil, append_assoc, arith, length-append, length-drop, drop-drop, le-leb}
use Rattle.std.proofs.Math.Option.{none, some, bind}
use Rattle.std.proofs.Math.Decide.{dec_le}
use Rattle.std.proofs.lemmas.Bool.{lt-leb}
use Rattle.laws.specs.Tests.{leb-behind}
use Rattle.laws.specs.Options.{map-cond}
use Rattle.paper.specs.File.{Field, bytes_of, number_of, complement, field_bytes, field_value, fields_bytes, take_number, take_fields}
use Rattle.format.specs.Numbers.{length-bytes}

unfoldable pub widths : List Field → List ℕ
widths [] = []
widths (f ∷ fs) = f.width ∷ widths fs

unfoldable pub total : List ℕ → ℕ
total [] = 0
total (w ∷ ws) = w + total ws

-- the numbers that bytes spell at these widths, one behind the other
unfoldable pub numbers_from : List ℕ → List ℕ → List ℕ
numbers_from [] xs = []
numbers_from (w ∷ ws) xs = number_of (take w xs) ∷ numbers_from ws (drop w xs)

-- the bytes of numbers at these widths
unfoldable pub numbers_bytes : List ℕ → List ℕ → List ℕ
numbers_bytes [] ns = []
numbers_bytes (w ∷ ws) [] = []
numbers_bytes (w ∷ ws) (n ∷ ns) = bytes_of w n ++ numbers_bytes ws ns

-- the values that numbers stand for in these fields
unfoldable pub values_by : List Field → List ℕ → List ℤ
values_by [] ns = []
values_by (f ∷ fs) [] = []
values_by (f ∷ fs) (n ∷ ns) = field_value f n ∷ values_by fs ns

-- the numbers that stand for values in these fields
unfoldable pub words_by : List Field → List ℤ → List ℕ
words_by [] vs = []
words_by (f ∷ fs) [] = []
words_by (f ∷ fs) (v ∷ vs) = complement f.width v ∷ words_by fs vs

-- ---- the closed forms

pub fields_bytes_lem : (fs : List Field) (vs : List ℤ) → fields_bytes fs vs ≡ numbers_bytes (widths fs) (words_by fs vs)
unfolding fields_bytes field_bytes widths words_by numbers_bytes
fields_bytes_lem [] vs = refl
fields_bytes_lem (f ∷ fs) [] = refl
fields_bytes_lem (f ∷ fs) (v ∷ vs) = ap (λ xs. bytes_of f.width (complement f.width v) ++ xs) (fields_bytes_lem fs vs)

pub take_fields_lem : (fs : List Field) (xs : List ℕ) → take_fields fs xs ≡ cond (leb (total (widths fs)) (length xs)) (some (values_by fs (numbers_from (widths fs) xs), drop (total (widths fs)) xs)) none
unfolding take_fields take_number bind total widths values_by numbers_from
take_fields_lem [] xs = rw (le-leb 0 (length xs) (omega arith))
take_fields_lem (f ∷ fs) xs =
    elim (dec_le f.width (length xs)) as (λ d. take_fields (f ∷ fs) xs ≡ cond (leb (total (widths (f ∷ fs))) (length xs)) (some (values_by (f ∷ fs) (numbers_from (widths (f ∷ fs)) xs), drop (total (widths (f ∷ fs))) xs)) none) [
      | yes k ↦
          let ys = drop f.width xs in
          let more : List ℤ × List ℕ → List ℤ × List ℕ = λ z. (field_value f (number_of (take f.width xs)) ∷ z.0, z.1) in
          let rest : List ℤ × List ℕ = (values_by fs (numbers_from (widths fs) ys), drop (total (widths fs)) ys) in
          let room : leb (total (widths fs)) (length ys) ≡ leb (f.width + total (widths fs)) (length xs) = rw (length-drop f.width xs) (leb-behind f.width (total (widths fs)) (length xs) k) in
          rw (le-leb f.width (length xs) k, take_fields_lem fs ys, map-cond more (leb (total (widths fs)) (length ys)) rest, room, drop-drop (total (widths fs)) f.width xs)
      | no k ↦ rw (lt-leb f.width (length xs) (omega arith), lt-leb (f.width + total (widths fs)) (length xs) (omega arith))
    ]

-- ---- one width more

pub total-more : (ws : List ℕ) (w : ℕ) → total (ws ++ w ∷ []) ≡ total ws + w
unfolding total
total-more [] w = omega arith
total-more (v ∷ ws) w = rw (total-more ws w) (omega arith)

pub numbers_more : (ws xs : List ℕ) (w : ℕ) → numbers_from (ws ++ w ∷ []) xs ≡ numbers_from ws xs ++ number_of (take w (drop (total ws) xs)) ∷ []
unfolding numbers_from total
numbers_more [] xs w = refl
numbers_more (v ∷ ws) xs w = rw (numbers_more ws (drop v xs) w, drop-drop (total ws) v xs)

pub widths-length : (fs : List Field) → length (widths fs) ≡ length fs
unfolding widths
widths-length [] = refl
widths-length (f ∷ fs) = ap suc (widths-length fs)

pub numbers-length : (ws xs : List ℕ) → length (numbers_from ws xs) ≡ length ws
unfolding numbers_from
numbers-length [] xs = refl
numbers-length (w ∷ ws) xs = rw (numbers-length ws (drop w xs))

pub bytes-more : (ws ns : List ℕ) (w n : ℕ) → length ws ≡ length ns → numbers_bytes (ws ++ w ∷ []) (ns ++ n ∷ []) ≡ numbers_bytes ws ns ++ bytes_of w n
unfolding numbers_bytes
bytes-more [] [] w n h = append-nil (bytes_of w n)
bytes-more [] (m ∷ ns) w n h = absurd (omega arith)
bytes-more (v ∷ ws) [] w n h = absurd (omega arith)
bytes-more (v ∷ ws) (m ∷ ns) w n h = rw (bytes-more ws ns w n (omega arith)) (sym (append_assoc (bytes_of v m) (numbers_bytes ws ns) (bytes_of w n)))

pub bytes-length : (ws ns : List ℕ) → length ws ≡ length ns → length (numbers_bytes ws ns) ≡ total ws
unfolding numbers_bytes total
bytes-length [] ns h = refl
bytes-length (w ∷ ws) [] h = absurd (omega arith)
bytes-length (w ∷ ws) (n ∷ ns) h = rw (length-append (bytes_of w n) (numbers_bytes ws ns), length-bytes w n, bytes-length ws ns (omega arith))
