-- A part of a list, and the place of the first of its elements that is a byte.
use Rattle.std.specs.Prelude.{Bool, true, false, List, [], ◌∷◌, ℕ, suc, eqb, take, drop}

-- the elements from one place to another
abbrev pub slice : {A : Type 0} → ℕ → ℕ → List A → List A
slice from to xs = drop from (take to xs)

-- the place of the first element, or one more than a place behind it
unfoldable pub index_after : Bool → ℕ → ℕ
index_after true i = 0
index_after false i = suc i

-- the place of the first c, or the length where there is none
unfoldable pub index_of : ℕ → List ℕ → ℕ
index_of c [] = 0
index_of c (x ∷ xs) = index_after (eqb x c) (index_of c xs)
