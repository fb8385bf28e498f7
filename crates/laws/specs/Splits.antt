-- A list split at each of one of its elements, by where the first of them stands; and what a search for it finds.
-- Assumes nothing.
use Rattle.std.specs.Prelude.{◌≡◌, refl, Bool, true, false, cond, ℕ, suc, ◌+◌, ◌-◌, ◌≤◌, ◌<◌, eqb, length, take, drop}
use Rattle.std.proofs.Common.{sym, ◌∙◌, arith, length-drop, drop-drop, eq-eqb, ne_eqb}
use Rattle.std.proofs.Math.Path.{ap}
use mathlib.Core.List.{List, [], ◌∷◌, ◌++◌}
use Rattle.std.proofs.Math.Seq.{take-length}
use Rattle.laws.specs.Bytes.{slice, index_after, index_of}
use Rattle.laws.specs.Lists.{Each}

-- an element in front of the first part
abbrev pub in_first : ℕ → List (List ℕ) → List (List ℕ)
in_first x [] = []
in_first x (p ∷ ps) = (x ∷ p) ∷ ps

-- the parts between the elements that are c; one at least
unfoldable pub split : ℕ → List ℕ → List (List ℕ)
split c [] = [] ∷ []
split c (x ∷ xs) = cond (eqb x c) ([] ∷ split c xs) (in_first x (split c xs))

-- ---- where the first c stands

most_by : (t : Bool) (i n : ℕ) → i ≤ n → index_after t i ≤ suc n
unfolding index_after
most_by true i n h = omega arith
most_by false i n h = omega arith

pub index_most : (c : ℕ) (xs : List ℕ) → index_of c xs ≤ length xs
unfolding index_of
index_most c [] = omega arith
index_most c (x ∷ xs) = most_by (eqb x c) (index_of c xs) (length xs) (index_most c xs)

-- behind elements that are all above it
pub index_first : (c : ℕ) (xs ys : List ℕ) → Each (λ (x : ℕ). c < x) xs → index_of c (xs ++ c ∷ ys) ≡ length xs
unfolding index_of index_after
index_first c [] ys h = rw (eq-eqb c c refl)
index_first c (x ∷ xs) ys h = rw (ne_eqb x c (λ e. omega (arith, h.0))) (ap suc (index_first c xs ys h.1))

-- nowhere
pub index_none : (c : ℕ) (xs : List ℕ) → Each (λ (x : ℕ). c < x) xs → index_of c xs ≡ length xs
unfolding index_of index_after
index_none c [] h = refl
index_none c (x ∷ xs) h = rw (ne_eqb x c (λ e. omega (arith, h.0))) (ap suc (index_none c xs h.1))

-- ---- the first part, and the others

first_by : (t : Bool) (c x : ℕ) (xs : List ℕ) → (index_of c xs < length xs → split c xs ≡ take (index_of c xs) xs ∷ split c (drop (suc (index_of c xs)) xs)) → index_after t (index_of c xs) < suc (length xs) → cond t ([] ∷ split c xs) (in_first x (split c xs)) ≡ take (index_after t (index_of c xs)) (x ∷ xs) ∷ split c (drop (suc (index_after t (index_of c xs))) (x ∷ xs))
unfolding index_after
first_by true c x xs h l = refl
first_by false c x xs h l = rw (h (omega (arith, l)))

pub split_first : (c : ℕ) (xs : List ℕ) → index_of c xs < length xs → split c xs ≡ take (index_of c xs) xs ∷ split c (drop (suc (index_of c xs)) xs)
unfolding split index_of
split_first c [] l = absurd (omega arith)
split_first c (x ∷ xs) l = first_by (eqb x c) c x xs (split_first c xs) l

whole_by : (t : Bool) (c x : ℕ) (xs : List ℕ) → (index_of c xs ≡ length xs → split c xs ≡ xs ∷ []) → index_after t (index_of c xs) ≡ suc (length xs) → cond t ([] ∷ split c xs) (in_first x (split c xs)) ≡ (x ∷ xs) ∷ []
unfolding index_after
whole_by true c x xs h e = absurd (omega (arith, e))
whole_by false c x xs h e = rw (h (omega (arith, e)))

pub split_whole : (c : ℕ) (xs : List ℕ) → index_of c xs ≡ length xs → split c xs ≡ xs ∷ []
unfolding split index_of
split_whole c [] e = refl
split_whole c (x ∷ xs) e = whole_by (eqb x c) c x xs (split_whole c xs) e

-- a part without c, apart from those behind it
pub split-part : (c : ℕ) (xs ys : List ℕ) → Each (λ (x : ℕ). c < x) xs → split c (xs ++ c ∷ ys) ≡ xs ∷ split c ys
unfolding split
split-part c [] ys h = rw (eq-eqb c c refl)
split-part c (x ∷ xs) ys h = rw (ne_eqb x c (λ e. omega (arith, h.0)), split-part c xs ys h.1)

-- ---- behind the first part

pub drop-part : (xs : List ℕ) (x : ℕ) (ys : List ℕ) → drop (suc (length xs)) (xs ++ x ∷ ys) ≡ ys
drop-part [] x ys = refl
drop-part (y ∷ xs) x ys = drop-part xs x ys

pub drop_past : (xs : List ℕ) → drop (suc (length xs)) xs ≡ []
drop_past [] = refl
drop_past (x ∷ xs) = drop_past xs

-- ---- a search from a place on: it ends at the first c there, or at the end

module _ (c : ℕ) (s : List ℕ) (at end : ℕ) (found : end ≡ at + index_of c (slice at (length s) s)) where
  abbrev rest : List ℕ
  rest = drop at s

  end_is : end ≡ at + index_of c rest
  end_is = found ∙ ap (λ (l : List ℕ). at + index_of c (drop at l)) (take-length s)

  pub part-found : take (end - at) rest ≡ take (index_of c rest) rest
  part-found = let e : end - at ≡ index_of c rest = omega (arith, end_is) in ap (λ (i : ℕ). take i rest) e

  pub rest-found : drop (suc end) s ≡ drop (suc (index_of c rest)) rest
  rest-found =
      let e : suc end ≡ at + suc (index_of c rest) = omega (arith, end_is) in
      ap (λ (i : ℕ). drop i s) e ∙ sym (drop-drop (suc (index_of c rest)) at s)

  -- the place behind it is further on
  pub further : (then : ℕ) → at < length s → then ≤ length s → drop then s ≡ drop (suc end) s → at < then
  further then here most behind =
      let e : length s - then ≡ length s - suc end = sym (length-drop then s) ∙ ap length behind ∙ length-drop (suc end) s in
      omega (arith, e, end_is)
