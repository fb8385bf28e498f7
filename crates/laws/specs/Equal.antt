-- Tests that two integers or two lists are equal, and that what passes is; equal lists pass. Assumes nothing.
use Rattle.std.specs.Prelude.{◌≡◌, refl, Bool, true, false, ◌&&◌, List, [], ◌∷◌, eqb, ℤ, pos, negsuc}
use Rattle.std.proofs.Common.{ap, eqb-true}
use Rattle.laws.specs.Tests.{both, left, right}

abbrev pub eq_z : ℤ → ℤ → Bool
eq_z (pos m) (pos n) = eqb m n
eq_z (pos m) (negsuc n) = false
eq_z (negsuc m) (pos n) = false
eq_z (negsuc m) (negsuc n) = eqb m n

pub same_Z : (x y : ℤ) → eq_z x y ≡ true → x ≡ y
same_Z (pos m) (pos n) e = ap pos (eqb-true m n e)
same_Z (pos m) (negsuc n) e = cc
same_Z (negsuc m) (pos n) e = cc
same_Z (negsuc m) (negsuc n) e = ap negsuc (eqb-true m n e)

-- two lists, by a test of their elements
module _ {A : Type 0} (t : A → A → Bool) where
  abbrev pub eq_list : List A → List A → Bool
  eq_list [] [] = true
  eq_list [] (y ∷ ys) = false
  eq_list (x ∷ xs) [] = false
  eq_list (x ∷ xs) (y ∷ ys) = t x y && eq_list xs ys

  pub same_list : ((x y : A) → t x y ≡ true → x ≡ y) → (xs ys : List A) → eq_list xs ys ≡ true → xs ≡ ys
  same_list h [] [] e = refl
  same_list h [] (y ∷ ys) e = cc
  same_list h (x ∷ xs) [] e = cc
  same_list h (x ∷ xs) (y ∷ ys) e =
      rw (h x y (left (t x y) (eq_list xs ys) e), same_list h xs ys (right (t x y) (eq_list xs ys) e))

  pub list_same : ((x : A) → t x x ≡ true) → (xs : List A) → eq_list xs xs ≡ true
  list_same h [] = refl
  list_same h (x ∷ xs) = both (t x x) (eq_list xs xs) (h x) (list_same h xs)
