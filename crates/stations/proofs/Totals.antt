-- Sums over any list, by induction on it. Assumes nothing.
use Rattle.std.specs.Prelude.{◌≡◌, refl, Bool, true, false, cond, List, [], ◌∷◌, ◌++◌, map, ℤ, pos, ◌+ℤ◌, ◌*ℤ◌}
use Rattle.std.proofs.Common.{ap, ◌∙◌, arith}
use Rattle.std.proofs.lemmas.Int.{ints}
use Rattle.std.specs.List.{filter}
use Rattle.laws.specs.Z.{is_nat, is_int, is_add, is_mul, same}
use Rattle.paper.specs.Equipment.{total}

times_sum : (x y a : ℤ) → (x +ℤ y) *ℤ a ≡ x *ℤ a +ℤ y *ℤ a
times_sum x y a =
    same (is_mul (is_add (is_int x) (is_int y)) (is_int a))
    (is_add (is_mul (is_int x) (is_int a)) (is_mul (is_int y) (is_int a)))
    (omega arith)

none_times : (a : ℤ) → pos 0 *ℤ a ≡ pos 0
none_times a = same (is_mul (is_nat 0) (is_int a)) (is_nat 0) (omega arith)

pub total_zero : {A : Type 0} (xs : List A) → total (λ (x : A). pos 0) xs ≡ pos 0
unfolding total
total_zero [] = refl
total_zero (x ∷ xs) = rw (total_zero xs)

pub total_add : {A : Type 0} (f g : A → ℤ) (xs : List A) → total (λ (x : A). f x +ℤ g x) xs ≡ total f xs +ℤ total g xs
unfolding total
total_add f g [] = refl
total_add f g (x ∷ xs) = rw (total_add f g xs) (omega (arith, ints))

pub total_times : {A : Type 0} (f : A → ℤ) (a : ℤ) (xs : List A) → total f xs *ℤ a ≡ total (λ (x : A). f x *ℤ a) xs
unfolding total
total_times f a [] = none_times a
total_times f a (x ∷ xs) = times_sum (f x) (total f xs) a ∙ ap (λ (t : ℤ). f x *ℤ a +ℤ t) (total_times f a xs)

-- over a list whose elements come from those of another
pub total-map : {A B : Type 0} (f : B → ℤ) (g : A → B) (xs : List A) → total f (map g xs) ≡ total (λ (x : A). f (g x)) xs
unfolding total
total-map f g [] = refl
total-map f g (x ∷ xs) = rw (total-map f g xs)

-- by equal values
pub total_same : {A : Type 0} (f g : A → ℤ) → ((x : A) → f x ≡ g x) → (xs : List A) → total f xs ≡ total g xs
unfolding total
total_same f g h [] = refl
total_same f g h (x ∷ xs) = rw (h x, total_same f g h xs)

-- over what passes a test
pub total-filter : {A : Type 0} (f : A → ℤ) (p : A → Bool) (xs : List A) → total f (filter p xs) ≡ total (λ (x : A). cond (p x) (f x) (pos 0)) xs
unfolding total
total-filter f p [] = refl
total-filter f p (x ∷ xs) = by (p x) (total-filter f p xs)
  where
    by : (t : Bool) → total f (filter p xs) ≡ total (λ (y : _). cond (p y) (f y) (pos 0)) xs → total f (cond t (x ∷ filter p xs) (filter p xs)) ≡ cond t (f x) (pos 0) +ℤ total (λ (y : _). cond (p y) (f y) (pos 0)) xs
    by true e = ap (λ (t : ℤ). f x +ℤ t) e
    by false e = rw e (omega (arith, ints))

-- with one element more
pub total-last : {A : Type 0} (f : A → ℤ) (xs : List A) (x : A) → total f (xs ++ x ∷ []) ≡ total f xs +ℤ f x
unfolding total
total-last f [] x = omega (arith, ints)
total-last f (y ∷ xs) x = rw (total-last f xs x) (omega (arith, ints))
