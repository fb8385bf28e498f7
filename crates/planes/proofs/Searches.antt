-- What a search up to a number finds: whether each number passes a test, and the smallest and the largest that do. What the
-- search returns is split into its two outcomes once, and the rest read off them. Assumes nothing.
use Prim.Native.Nat.{ℕ, zero, suc, ◌+◌, ◌≤◌, ◌<◌}
use mathlib.Core.Path.{◌≡◌, refl, sym, ◌∙◌}
use mathlib.Core.Bool.{Bool, true, false, not, ◌&&◌}
use mathlib.Core.Logic.{⊎_elim}
use native.Mathlib.Nat.{eq-or-lt_of_le}
use native.Mathlib.Decide.{dec_le}
use native.Mathlib.Omega.{arith}
use Rattle.std.specs.Prelude.{Some, None}
use Rattle.std.proofs.lemmas.Option.{none-some, some_pair_parts}
use Rattle.laws.specs.Tests.{both, left, right, and_by, clash}
use Rattle.paper.specs.Rows.{up_to, one_to, smallest, largest, row_of}

-- ---- each number passes

pub up_to-more : (q : ℕ → Bool) (n : ℕ) → up_to q (suc n) ≡ (q (suc n) && up_to q n)
unfolding up_to
up_to-more q n = and_by (q (suc n)) (up_to q n)

pub up_to_lem : (q : ℕ → Bool) (n : ℕ) → ((v : ℕ) → v ≤ n → q v ≡ true) → up_to q n ≡ true
unfolding up_to
up_to_lem q zero h = h zero (omega arith)
up_to_lem q (suc n) h =
    up_to-more q n ∙ both (q (suc n)) (up_to q n) (h (suc n) (omega arith)) (up_to_lem q n (λ v k. h v (omega arith)))

pub up_to_at : (q : ℕ → Bool) (n : ℕ) → up_to q n ≡ true → (v : ℕ) → v ≤ n → q v ≡ true
unfolding up_to
up_to_at q zero e v h = let z : v ≡ 0 = omega arith in rw z e
up_to_at q (suc n) e v h =
    let e' : (q (suc n) && up_to q n) ≡ true = sym (up_to-more q n) ∙ e in
    ⊎_elim (λ (z : v ≡ suc n). rw z (left (q (suc n)) (up_to q n) e'))
    (λ (z : v < suc n). up_to_at q n (right (q (suc n)) (up_to q n) e') v (omega arith))
    (eq-or-lt_of_le h)

-- ---- one passes: where not all fail

pub one_not_all : (q : ℕ → Bool) (n : ℕ) → one_to q n ≡ not (up_to (λ (v : ℕ). not (q v)) n)
unfolding one_to up_to
one_not_all q zero = by (q zero)
  where
    by : (b : Bool) → b ≡ not (not b)
    by true = refl
    by false = refl
one_not_all q (suc n) = by (q (suc n)) refl (one_not_all q n)
  where
    by : (b : Bool) → q (suc n) ≡ b → one_to q n ≡ not (up_to (λ (v : ℕ). not (q v)) n) → one_to q (suc n) ≡ not (up_to (λ (v : ℕ). not (q v)) (suc n))
    by true e h = rw (one_to, up_to, e)
    by false e h = rw (one_to, up_to, e) h

-- ---- the smallest, among the n numbers from p on

data First (q : ℕ → Bool) (n p : ℕ) : Type 0 where
  first : (m : ℕ) → smallest q n p ≡ Some m → q m ≡ true → p ≤ m → m < p + n → ((j : ℕ) → p ≤ j → j < m → q j ≡ false) → First q n p
  no_first : smallest q n p ≡ None → ((j : ℕ) → p ≤ j → j < p + n → q j ≡ false) → First q n p

-- a number that is not before p is p or after it
since : (q : ℕ → Bool) (p j : ℕ) → q p ≡ false → (suc p ≤ j → q j ≡ false) → p ≤ j → q j ≡ false
since q p j e f h = ⊎_elim (λ (z : p ≡ j). let e' : q j ≡ false = rw z at e in e') (λ (z : p < j). f z) (eq-or-lt_of_le h)

first_here : (q : ℕ → Bool) (n p : ℕ) (b : Bool) → q p ≡ b → First q n (suc p) → First q (suc n) p
unfolding smallest
first_here q n p true e r = first p (rw (smallest, e)) e (omega arith) (omega arith) (λ j h k. absurd (omega arith))
first_here q n p false e (first m f t h k u) =
    first m (rw (smallest, e) f) t (omega arith) (omega arith) (λ j a b. since q p j e (λ c. u j c b) a)
first_here q n p false e (no_first f u) =
    no_first (rw (smallest, e) f) (λ j a b. since q p j e (λ c. u j c (omega arith)) a)

first_of : (q : ℕ → Bool) (n p : ℕ) → First q n p
unfolding smallest
first_of q zero p = no_first refl (λ j h k. absurd (omega arith))
first_of q (suc n) p = first_here q n p (q p) refl (first_of q n (suc p))

-- ---- the largest, from n down to 0

data Last (q : ℕ → Bool) (n : ℕ) : Type 0 where
  last : (m : ℕ) → largest q n ≡ Some m → q m ≡ true → m ≤ n → ((j : ℕ) → m < j → j ≤ n → q j ≡ false) → Last q n
  no_last : largest q n ≡ None → ((j : ℕ) → j ≤ n → q j ≡ false) → Last q n

last_zero : (q : ℕ → Bool) (b : Bool) → q zero ≡ b → Last q zero
unfolding largest
last_zero q true e = last zero (rw (largest, e)) e (omega arith) (λ j h k. absurd (omega arith))
last_zero q false e = no_last (rw (largest, e)) (λ j h. let z : j ≡ 0 = omega arith in rw z e)

-- a number that is not after n + 1 is that or before it
until : (q : ℕ → Bool) (n j : ℕ) → q (suc n) ≡ false → (j ≤ n → q j ≡ false) → j ≤ suc n → q j ≡ false
until q n j e f h = ⊎_elim (λ (z : j ≡ suc n). rw z e) (λ (z : j < suc n). f (omega arith)) (eq-or-lt_of_le h)

last_here : (q : ℕ → Bool) (n : ℕ) (b : Bool) → q (suc n) ≡ b → Last q n → Last q (suc n)
unfolding largest
last_here q n true e r = last (suc n) (rw (largest, e)) e (omega arith) (λ j h k. absurd (omega arith))
last_here q n false e (last m f t h u) =
    last m (rw (largest, e) f) t (omega arith) (λ j a b. until q n j e (λ c. u j a c) b)
last_here q n false e (no_last f u) = no_last (rw (largest, e) f) (λ j b. until q n j e (λ c. u j c) b)

last_of : (q : ℕ → Bool) (n : ℕ) → Last q n
last_of q zero = last_zero q (q zero) refl
last_of q (suc n) = last_here q n (q (suc n)) refl (last_of q n)

-- ---- the row

-- what a row's two ends are: numbers up to n that pass, and each that does is between them
abbrev pub Ends : (ℕ → Bool) → ℕ → ℕ → ℕ → Type 0
Ends q n lo hi =
    (q lo ≡ true) × (q hi ≡ true) × (lo ≤ n) × (hi ≤ n) × ((j : ℕ) → j ≤ n → q j ≡ true → (lo ≤ j) × (j ≤ hi))

-- no number up to n passes
abbrev pub NonePasses : (ℕ → Bool) → ℕ → Type 0
NonePasses q n = (j : ℕ) → j ≤ n → q j ≡ false

-- what a search comes to: a range with its two ends, or a blank where none passes
pub data Outcome (q : ℕ → Bool) (n : ℕ) : Type 0 where
  a_range : (lo hi : ℕ) → row_of q n ≡ Some (lo, hi) → Ends q n lo hi → Outcome q n
  a_blank : row_of q n ≡ None → NonePasses q n → Outcome q n

pub outcome : (q : ℕ → Bool) (n : ℕ) → Outcome q n
unfolding row_of
outcome q n = ends (first_of q (suc n) 0) (last_of q n)
  where
    ends : First q (suc n) 0 → Last q n → Outcome q n
    ends (first lo e t h k u) (last hi f t' h' u') =
        a_range lo hi (rw (row_of, e, f)) (
          t,
          t',
          omega arith,
          h',
          λ j m p. (
            elim (dec_le lo j) as (λ d. lo ≤ j) [ yes a ↦ a | no a ↦ absurd (clash (q j) p (u j (omega arith) (omega arith))) ],
            elim (dec_le j hi) as (λ d. j ≤ hi) [ yes a ↦ a | no a ↦ absurd (clash (q j) p (u' j (omega arith) m)) ],
          ),
        )
    ends (first lo e t h k u) (no_last f u') = absurd (clash (q lo) t (u' lo (omega arith)))
    ends (no_first e u) l = a_blank (rw (row_of, e)) (λ j m. u j (omega arith) (omega arith))

-- ---- read off a range

-- of a row that is a range
pub found : (q : ℕ → Bool) (n lo hi : ℕ) → row_of q n ≡ Some (lo, hi) → Ends q n lo hi
found q n lo hi e = by (outcome q n)
  where
    by : Outcome q n → Ends q n lo hi
    by (a_range a b f ends) =
        let same = some_pair_parts a lo b hi (sym f ∙ e) in
        rw (same.0, same.1) at ends
    by (a_blank f h) = absurd (none-some (lo, hi) (sym f ∙ e))

-- ---- the row of a test whose ends are known, of one that none passes, and of one that is another up to n

pub row_of-ends : (q : ℕ → Bool) (n lo hi : ℕ) → Ends q n lo hi → row_of q n ≡ Some (lo, hi)
row_of-ends q n lo hi h = by (outcome q n)
  where
    by : Outcome q n → row_of q n ≡ Some (lo, hi)
    by (a_range a b f k) =
        let x : a ≡ lo = omega (arith, (h.4 a k.2 k.0).0, (k.4 lo h.2 h.0).0) in
        let y : b ≡ hi = omega (arith, (h.4 b k.3 k.1).1, (k.4 hi h.3 h.1).1) in
        rw (f, x, y)
    by (a_blank f k) = absurd (clash (q lo) h.0 (k lo h.2))

pub row_of_none : (q : ℕ → Bool) (n : ℕ) → NonePasses q n → row_of q n ≡ None
row_of_none q n h = by (outcome q n)
  where
    by : Outcome q n → row_of q n ≡ None
    by (a_range a b f k) = absurd (clash (q a) k.0 (h a k.2))
    by (a_blank f k) = f

pub row_of_same : (q r : ℕ → Bool) (n : ℕ) → ((j : ℕ) → j ≤ n → q j ≡ r j) → row_of q n ≡ row_of r n
row_of_same q r n h = by (outcome r n)
  where
    by : Outcome r n → row_of q n ≡ row_of r n
    by (a_range a b f k) =
        row_of-ends q n a b
        (h a k.2 ∙ k.0, h b k.3 ∙ k.1, k.2, k.3, λ j m p. k.4 j m (sym (h j m) ∙ p)) ∙ sym f
    by (a_blank f k) = row_of_none q n (λ j m. h j m ∙ k j m) ∙ sym f
