-- The words of a line: split at its spaces, they are the first and those behind it, one by one; and one word more that is read
-- is one value more. Assumes nothing.
use mathlib.Core.Path.{◌≡◌, refl, sym, ap, ◌∙◌}
use mathlib.Core.Bool.{Bool, true, false, cond}
use mathlib.Core.List.{List, [], ◌∷◌}
use Prim.Native.Nat.{ℕ, zero, suc, ◌+◌, ◌≤◌, ◌<◌}
use native.Mathlib.Decide.{dec_lt}
use native.Mathlib.Numerals.{add-one}
use native.Mathlib.Omega.{arith}
use lib.Dec.{eqb}
use lib.IntN.{ℤ, pos}
use lib.ListN.{length, get_or, take, drop, set, replicate, length-take}
use lib.Seq.{take_all}
use Rattle.std.specs.List.{slice_split, onto_first, enumerate_from}
use Rattle.std.proofs.lemmas.List.Splits.{length-slice_split}
use Rattle.std.proofs.lemmas.List.FromFn.{length-enumerate_from, get_or-enumerate_from}
use Rattle.laws.specs.Bytes.{index_of}
use Rattle.laws.specs.Splits.{split, in_first, index_most, split_first, split_whole, drop_past}
use Rattle.paper.specs.Placard.{space}
use Rattle.numerals.specs.Numerals.{value_of}
use Rattle.language.specs.Lines.{first_word, other_words, values_from}

-- ---- a list split at an element, as std splits a slice

first_is : (x : ℕ) (ps : List (List ℕ)) → 0 < length ps → onto_first x ps ≡ in_first x ps
first_is x [] h = absurd (omega arith)
first_is x (p ∷ ps) h = refl

split_by : (t : Bool) (x : ℕ) (ps qs : List (List ℕ)) → qs ≡ ps → 0 < length qs → cond t ([] ∷ qs) (onto_first x qs) ≡ cond t ([] ∷ ps) (in_first x ps)
split_by true x ps qs e h = ap (λ (l : List (List ℕ)). [] ∷ l) e
split_by false x ps qs e h = first_is x qs h ∙ ap (in_first x) e

pub split_is : (c : ℕ) (xs : List ℕ) → slice_split (λ (b : ℕ). eqb b c) xs ≡ split c xs
unfolding split
split_is c [] = refl
split_is c (x ∷ xs) =
    split_by (eqb x c) x (split c xs) (slice_split (λ (b : ℕ). eqb b c) xs) (split_is c xs)
    (let n = length-slice_split (λ (b : ℕ). eqb b c) xs in omega arith)

-- a part with its place, among the parts with theirs
abbrev pub IsPart : List (List ℕ) → ℕ → ℕ → List ℕ → Type 0
IsPart ps i k xs = (k ≡ i) × (i < length ps) × (xs ≡ get_or ps i xs)

add_none : (i : ℕ) → 0 + i ≡ i
add_none i = omega arith

pub part_here : (ps : List (List ℕ)) (i k : ℕ) (xs : List ℕ) → (i < length (enumerate_from 0 ps)) × ((k, xs) ≡ get_or (enumerate_from 0 ps) i (k, xs)) → IsPart ps i k xs
part_here ps i k xs t =
    let few : i < length ps = rw (length-enumerate_from 0 ps) at t.0 in
    let e : (k, xs) ≡ (0 + i, get_or ps i xs) = t.1 ∙ get_or-enumerate_from 0 ps i (k, xs) few in
    (ap (λ (p : ℕ × List ℕ). p.0) e ∙ add_none i, few, ap (λ (p : ℕ × List ℕ). p.1) e)

-- ---- the numbers of words

-- of the first k, 0 where there are no more
unfoldable pub numbers_in : ℕ → List (List ℕ) → List ℤ
numbers_in zero ws = []
numbers_in (suc k) [] = pos 0 ∷ numbers_in k []
numbers_in (suc k) (w ∷ ws) = value_of w ∷ numbers_in k ws

pub no_values : (k : ℕ) → values_from k [] ≡ replicate k (pos 0)
unfolding values_from first_word other_words value_of index_of
no_values zero = refl
no_values (suc k) = ap (λ vs. pos 0 ∷ vs) (no_values k)

pub no_numbers : (k : ℕ) → numbers_in k [] ≡ replicate k (pos 0)
unfolding numbers_in
no_numbers zero = refl
no_numbers (suc k) = ap (λ vs. pos 0 ∷ vs) (no_numbers k)

none_left : (k : ℕ) → values_from k [] ≡ numbers_in k []
none_left k = no_values k ∙ sym (no_numbers k)

-- the words behind the first, by whether a space stands behind it
others_by : (k : ℕ) (xs : List ℕ) → ((ys : List ℕ) → values_from k ys ≡ numbers_in k (split space ys)) → values_from k (other_words xs) ≡ numbers_in k (drop 1 (split space xs))
unfolding other_words
others_by k xs h =
    elim (dec_lt (index_of space xs) (length xs)) as (λ d. values_from k (drop (suc (index_of space xs)) xs) ≡ numbers_in k (drop 1 (split space xs))) [
      | yes l ↦ rw (split_first space xs l) (h (drop (suc (index_of space xs)) xs))
      | no l ↦
          let e : index_of space xs ≡ length xs = omega (arith, index_most space xs) in
          rw (split_whole space xs e, e, drop_past xs) (none_left k)
    ]

-- the first is what stands before that space
first_split : (xs : List ℕ) → split space xs ≡ first_word xs ∷ drop 1 (split space xs)
unfolding first_word
first_split xs =
    elim (dec_lt (index_of space xs) (length xs)) as (λ d. split space xs ≡ take (index_of space xs) xs ∷ drop 1 (split space xs)) [
      | yes l ↦ rw (split_first space xs l) refl
      | no l ↦
          let e : index_of space xs ≡ length xs = omega (arith, index_most space xs) in
          rw (split_whole space xs e, e, take_all (length xs) xs (omega arith)) refl
    ]

all_words : (k : ℕ) (xs : List ℕ) → values_from k xs ≡ numbers_in k (split space xs)
unfolding values_from numbers_in
all_words zero xs = refl
all_words (suc k) xs =
    ap (λ vs. value_of (first_word xs) ∷ vs) (others_by k xs (all_words k)) ∙ sym (ap (numbers_in (suc k)) (first_split xs))

-- those behind the first word of a line
abbrev pub words_behind : List ℕ → List (List ℕ)
words_behind xs = take 15 (drop 1 (slice_split (λ (b : ℕ). eqb b space) xs))

pub few_words : (xs : List ℕ) → length (words_behind xs) ≤ 15
few_words xs = omega (arith, length-take {A = List ℕ})

first_numbers : (k : ℕ) (ws : List (List ℕ)) → numbers_in k (take k ws) ≡ numbers_in k ws
unfolding numbers_in
first_numbers zero ws = refl
first_numbers (suc k) [] = refl
first_numbers (suc k) (w ∷ ws) = ap (λ vs. value_of w ∷ vs) (first_numbers k ws)

-- ---- the loop: the numbers of the first i words, one after the other

abbrev pub read_to : List (List ℕ) → ℕ → List ℤ
read_to ws i = numbers_in 15 (take i ws)

one_read : (k : ℕ) (ws : List (List ℕ)) (i : ℕ) (w : List ℕ) → i < k → i < length ws → set (numbers_in k (take i ws)) i (value_of (get_or ws i w)) ≡ numbers_in k (take (suc i) ws)
unfolding numbers_in
one_read zero ws i w h l = absurd (omega arith)
one_read (suc k) [] i w h l = absurd (omega arith)
one_read (suc k) (v ∷ ws) zero w h l = refl
one_read (suc k) (v ∷ ws) (suc i) w h l = ap (λ vs. value_of v ∷ vs) (one_read k ws i w (omega arith) (omega arith))

pub read_more : (ws : List (List ℕ)) (i k : ℕ) (w : List ℕ) (v : List ℤ) (x : ℤ) → length ws ≤ 15 → IsPart ws i k w → v ≡ read_to ws i → x ≡ value_of w → set v k x ≡ read_to ws (i + 1)
read_more ws i k w v x few p e f =
    rw (add-one i, p.0, e, f ∙ ap value_of p.2) (one_read 15 ws i w (omega (arith, p.1)) p.1)

pub read_all : (xs : List ℕ) (i : ℕ) → length (words_behind xs) ≤ i → read_to (words_behind xs) i ≡ values_from 15 (other_words xs)
read_all xs i h =
    ap (numbers_in 15) (take_all i (words_behind xs) h)
    ∙ first_numbers 15 (drop 1 (slice_split (λ (b : ℕ). eqb b space) xs))
    ∙ ap (λ (l : List (List ℕ)). numbers_in 15 (drop 1 l)) (split_is space xs)
    ∙ sym (others_by 15 xs (all_words 15))
