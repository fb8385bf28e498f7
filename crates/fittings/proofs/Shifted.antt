-- An element put before those from a place on, which are moved up by one: by induction on the place. Assumes nothing.
use Rattle.std.specs.Prelude.{◌≡◌, List, [], ◌∷◌, ◌++◌, ℕ, zero, suc, ◌+◌, ◌-◌, ◌≤◌, ◌<◌, length, take, drop, set}
use Rattle.std.proofs.Common.{ap, arith, take_at, length-take-le}
use Rattle.std.specs.List.{insert, copy_within}

shifted : {A : Type 0} (xs ys : List A) (at m n : ℕ) (x : A) → n ≡ at + m → n < length xs
    → take (suc n) (set (take (suc at) xs ++ take m (drop at xs) ++ ys) at x) ≡ take at (take n xs) ++ x ∷ drop at (take n xs)
shifted [] ys at m n x e l = absurd (omega arith)
shifted (y ∷ xs) ys zero m n x e l =
    let f : m ≡ n = omega arith in
    rw f (ap (λ zs. x ∷ zs) (take_at (take n (y ∷ xs)) ys n (length-take-le n (y ∷ xs) (omega arith))))
shifted (y ∷ xs) ys (suc at) m zero x e l = absurd (omega arith)
shifted (y ∷ xs) ys (suc at) m (suc n) x e l = ap (λ zs. y ∷ zs) (shifted xs ys at m n x (omega arith) (omega arith))

pub inserted : {A : Type 0} (xs : List A) (at n : ℕ) (x : A) → at ≤ n → n < length xs → take (n + 1) (set (copy_within xs at n (at + 1)) at x) ≡ insert (take n xs) at x
inserted xs at n x h l =
    let e : n + 1 ≡ suc n = omega arith in
    let f : at + 1 ≡ suc at = omega arith in
    rw (e, f) (shifted xs (drop (suc at + (n - at)) xs) at (n - at) n x (omega arith) l)
