-- Lists over 0, 1, .. n - 1: one more of them and the i-th, lists one behind the other, a list without its last, and a
-- list of lists by one index. Assumes nothing.
use mathlib.Core.Path.{◌≡◌, refl, sym, ap, ◌∙◌}
use mathlib.Core.List.{List, [], ◌∷◌, ◌++◌, map, append_assoc, append-nil, map-map}
use mathlib.Core.Logic.{⊎_elim}
use Prim.Native.Nat.{ℕ, zero, suc, ◌+◌, ◌*◌, ◌/◌, ◌%◌, ◌≤◌, ◌<◌}
use native.Mathlib.Nat.{eq-or-lt_of_le}
use native.Mathlib.Omega.{arith}
use lib.Arith.{digits_div, digits_mod}
use lib.ListN.{length, take, drop, get_or, length-append, get_or-append}
use lib.Seq.{take_at, drop_at, get_or_at}
use Rattle.laws.specs.Lists.{map-append, length_more}
use Rattle.paper.specs.Rows.{below, joined}
use Rattle.paper.specs.Journal.{without_last}

-- one more
pub map-below-more : {A : Type 0} (f : ℕ → A) (i : ℕ) → map f (below (suc i)) ≡ map f (below i) ++ f i ∷ []
unfolding below
map-below-more f i = map-append f (below i) (i ∷ [])

-- only what f is below n counts
pub map_below : {A : Type 0} (f g : ℕ → A) (n : ℕ) → ((i : ℕ) → i < n → f i ≡ g i) → map f (below n) ≡ map g (below n)
unfolding below
map_below f g zero h = refl
map_below f g (suc n) h =
    rw (map-below-more f n, map-below-more g n, map_below f g n (λ i k. h i (omega arith)), h n (omega arith))

pub length-below : {A : Type 0} (f : ℕ → A) (n : ℕ) → length (map f (below n)) ≡ n
unfolding below
length-below f zero = refl
length-below f (suc n) = rw (map-below-more f n) (omega (arith, length_more (map f (below n)) (f n), length-below f n))

-- the i-th of them
pub below_at : {A : Type 0} (f : ℕ → A) (n i : ℕ) (d : A) → i < n → get_or (map f (below n)) i d ≡ f i
below_at f zero i d h = absurd (omega arith)
below_at f (suc n) i d h =
    rw (map-below-more f n)
    (⊎_elim (λ (e : i ≡ n). rw e (get_or_at (map f (below n)) (f n) [] d n (length-below f n)))
    (λ (m : i < n). get_or-append (map f (below n)) (f n ∷ []) d i (omega (arith, length-below f n)) ∙ below_at f n i d m)
    (eq-or-lt_of_le (omega arith)))

-- the next m behind the first n
pub below-add : (n m : ℕ) → below (n + m) ≡ below n ++ map (λ (j : ℕ). n + j) (below m)
unfolding below
below-add n zero = let e : n + 0 ≡ n = omega arith in rw (e, append-nil (below n))
below-add n (suc m) =
    let e : n + suc m ≡ suc (n + m) = omega arith in
    rw (e, below-add n m, map-below-more (λ (j : ℕ). n + j) m)
    (append_assoc (below n) (map (λ (j : ℕ). n + j) (below m)) ((n + m) ∷ []))

-- ---- lists one behind the other

pub joined-last : {A : Type 0} (xss : List (List A)) (xs : List A) → joined (xss ++ xs ∷ []) ≡ joined xss ++ xs
unfolding joined
joined-last [] xs = append-nil xs
joined-last (ys ∷ xss) xs = ap (λ zs. ys ++ zs) (joined-last xss xs) ∙ sym (append_assoc ys (joined xss) xs)

-- the lists of the first i elements are no longer than those of the first c
pub joined-part : {A B : Type 0} (f : A → List B) (xs : List A) (i c : ℕ) → i ≤ c → length (joined (map f (take i xs))) ≤ length (joined (map f (take c xs)))
unfolding joined
joined-part f xs zero c h = omega arith
joined-part f xs (suc i) zero h = absurd (omega arith)
joined-part f [] (suc i) (suc c) h = omega arith
joined-part f (x ∷ xs) (suc i) (suc c) h =
    omega (arith, length-append (f x) (joined (map f (take i xs))), length-append (f x) (joined (map f (take c xs))), joined-part f xs i c (omega arith))

pub joined-more : {A : Type 0} (f : ℕ → List A) (i : ℕ) → joined (map f (below (suc i))) ≡ joined (map f (below i)) ++ f i
joined-more f i = rw (map-below-more f i) (joined-last (map f (below i)) (f i))

-- lists of the same length
pub length-joined : {A : Type 0} (f : ℕ → List A) (k : ℕ) → ((i : ℕ) → length (f i) ≡ k) → (n : ℕ) → length (joined (map f (below n))) ≡ k * n
unfolding below joined
length-joined f k h zero = omega arith
length-joined f k h (suc n) =
    rw (joined-more f n) (omega (arith, length-append (joined (map f (below n))) (f n), length-joined f k h n, h n))

-- the i-th of them
pub joined_at : {A : Type 0} (f : ℕ → List A) (k : ℕ) → ((i : ℕ) → length (f i) ≡ k) → (n i : ℕ) (zs : List A) → i < n → take k (drop (k * i) (joined (map f (below n)) ++ zs)) ≡ f i
joined_at f k h zero i zs l = absurd (omega arith)
joined_at f k h (suc n) i zs l =
    rw (joined-more f n, append_assoc (joined (map f (below n))) (f n) zs)
    (⊎_elim (λ (e : i ≡ n). rw (e, drop_at (joined (map f (below n))) (f n ++ zs) (k * n) (length-joined f k h n)) (take_at (f n) zs k (h n)))
    (λ (m : i < n). joined_at f k h n i (f n ++ zs) m)
    (eq-or-lt_of_le (omega arith)))

-- ---- a list without its last

pub last_apart : {A : Type 0} (xs : List A) → 0 < length xs → (x : A) × (xs ≡ without_last xs ++ x ∷ [])
unfolding without_last
last_apart [] h = absurd (omega arith)
last_apart (x ∷ []) h = (x, refl)
last_apart (x ∷ y ∷ xs) h = let r = last_apart (y ∷ xs) (omega arith) in (r.0, ap (λ zs. x ∷ zs) r.1)

pub without_more : {A : Type 0} (xs : List A) (x : A) → without_last (xs ++ x ∷ []) ≡ xs
unfolding without_last
without_more [] x = refl
without_more (y ∷ []) x = refl
without_more (y ∷ z ∷ xs) x = ap (λ zs. y ∷ zs) (without_more (z ∷ xs) x)

-- ---- m lists of n by one index: the list varies slowest, the place in it fastest

module _ {A : Type 0} (f : ℕ → ℕ → A) (n : ℕ) where
  -- the i-th of the lists
  one_list : (i : ℕ) → map (λ (k : ℕ). f (k / n) (k % n)) (map (λ (j : ℕ). i * n + j) (below n)) ≡ map (f i) (below n)
  one_list i =
      map-map (λ (k : ℕ). f (k / n) (k % n)) (λ (j : ℕ). i * n + j) (below n)
      ∙ map_below (λ (j : ℕ). f ((i * n + j) / n) ((i * n + j) % n)) (f i) n (λ j h. rw (digits_div i h, digits_mod i h))

  pub joined_by_index : (m : ℕ) → joined (map (λ (i : ℕ). map (f i) (below n)) (below m)) ≡ map (λ (k : ℕ). f (k / n) (k % n)) (below (m * n))
  unfolding below joined
  joined_by_index zero = let e : 0 * n ≡ 0 = omega arith in rw e
  joined_by_index (suc m) =
      let e : suc m * n ≡ m * n + n = omega arith in
      let h : ℕ → A = λ k. f (k / n) (k % n) in
      rw (
        joined-more (λ (i : ℕ). map (f i) (below n)) m,
        joined_by_index m,
        e,
        below-add (m * n) n,
        map-append h (below (m * n)) (map (λ (j : ℕ). m * n + j) (below n)),
        one_list m,
      )
