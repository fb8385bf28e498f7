-- Strictly rising lists of integers: each is the only one with just its elements, and an integer has one place in it. By
-- induction on the list, with the three ways in which two integers stand to one another. Assumes nothing.
use Rattle.std.specs.Prelude.{◌≡◌, refl, Bool, true, false, cond, ◌||◌, List, [], ◌∷◌, ℕ, zero, suc, ◌<◌, length, get_or, ℤ}
use Rattle.std.proofs.Common.{sym, ap, ◌∙◌, arith, true≢false}
use Rattle.std.proofs.Math.Bool.{or-true}
use Rattle.std.specs.List.{list_any, AllByRecursion}
use Rattle.std.specs.List.Sorted.{IsStrictlySortedBy}
use Rattle.std.specs.declared.cmp.Ordering.TheVariants.{Less}
use Rattle.std.specs.Ordering.{int_eq, int_cmp}
use Rattle.std.specs.Int.Signed.{lt_z}
use Rattle.std.proofs.lemmas.Bool.Decides.{Decides-int_eq}
use Rattle.std.proofs.lemmas.Int.{ints}
use Rattle.laws.specs.Tests.{clash, or_swap}

abbrev pub has : ℤ → List ℤ → Bool
has a = list_any (int_eq a)

abbrev pub Rising : List ℤ → Type 0
Rising = IsStrictlySortedBy int_cmp

-- a is below each element
abbrev pub Below : ℤ → List ℤ → Type 0
Below a = AllByRecursion (λ (b : ℤ). int_cmp a b ≡ Less)

-- ---- how two integers stand

pub eq_same : (a b : ℤ) → int_eq a b ≡ true → a ≡ b
eq_same a b e = (Decides-int_eq a b).0 e

pub same_eq : (a b : ℤ) → a ≡ b → int_eq a b ≡ true
same_eq a b e = (Decides-int_eq a b).1 e

less_trans : (a b c : ℤ) → int_cmp a b ≡ Less → int_cmp b c ≡ Less → int_cmp a c ≡ Less
less_trans a b c h k = grind (arith, ints)

pub less-eq : (a b : ℤ) → int_cmp a b ≡ Less → int_eq a b ≡ false
less-eq a b h = grind (arith, ints)

no_cycle : (a b : ℤ) → int_cmp a b ≡ Less → int_cmp b a ≡ Less → ⊥
no_cycle a b h k = grind (arith, ints)

pub less-lt : (a b : ℤ) → lt_z a b ≡ true → int_cmp a b ≡ Less
less-lt a b h = grind (arith, ints)

has_first : (a : ℤ) (xs : List ℤ) → has a (a ∷ xs) ≡ true
has_first a xs = rw (same_eq a a refl)

pub has_at : (a : ℤ) (xs : List ℤ) (i : ℕ) → i < length xs → get_or xs i a ≡ a → has a xs ≡ true
has_at a [] i h e = absurd (omega arith)
has_at a (b ∷ xs) zero h e = rw (same_eq a b (sym e))
has_at a (b ∷ xs) (suc i) h e = rw (has_at a xs i (omega arith) e) (or-true (int_eq a b))

-- ---- what is below the elements of a list

pub below_trans : (a b : ℤ) (ys : List ℤ) → int_cmp a b ≡ Less → Below b ys → Below a ys
below_trans a b [] h k = tt
below_trans a b (c ∷ zs) h k = (less_trans a b c h k.0, below_trans a b zs h k.1)

pub below_has : (a : ℤ) (ys : List ℤ) → Below a ys → (c : ℤ) → has c ys ≡ true → int_cmp a c ≡ Less
below_has a [] h c e = absurd (true≢false (sym e))
below_has a (b ∷ ys) h c e = by (int_eq c b) refl (below_has a ys h.1 c)
  where
    by : (t : Bool) → int_eq c b ≡ t → (has c ys ≡ true → int_cmp a c ≡ Less) → int_cmp a c ≡ Less
    by true f k = rw (eq_same c b f) h.0
    by false f k = let e' : has c ys ≡ true = rw f at e in k e'

pub below_lacks : (a : ℤ) (ys : List ℤ) → Below a ys → has a ys ≡ false
below_lacks a [] h = refl
below_lacks a (b ∷ ys) h = rw (less-eq a b h.0) (below_lacks a ys h.1)

-- what each element that a list has passes
pub all_by_has : (P : ℤ → Type 0) (ys : List ℤ) → ((c : ℤ) → has c ys ≡ true → P c) → AllByRecursion P ys
all_by_has P [] h = tt
all_by_has P (b ∷ ys) h = (h b (rw (same_eq b b refl) refl), all_by_has P ys (λ c e. h c (rw e (or-true (int_eq c b)))))

-- ---- the one rising list with just these elements

-- the first elements of two such lists are the same
same_first : (a b : ℤ) (xs ys : List ℤ) → Below a xs → Below b ys → has a (b ∷ ys) ≡ true → has b (a ∷ xs) ≡ true → a ≡ b
same_first a b xs ys h k e f = by (int_eq a b) refl
  where
    by : (t : Bool) → int_eq a b ≡ t → a ≡ b
    by true g = eq_same a b g
    by false g =
        let m : has a ys ≡ true = rw g at e in
        let n : int_cmp b a ≡ Less = below_has b ys k a m in
        let l : int_eq b a ≡ false = less-eq b a n in
        let p : has b xs ≡ true = rw l at f in
        absurd (no_cycle b a n (below_has a xs h b p))

-- and so are the others
same_rest : (a : ℤ) (xs ys : List ℤ) → Below a xs → Below a ys → ((c : ℤ) → has c (a ∷ xs) ≡ has c (a ∷ ys)) → (c : ℤ) → has c xs ≡ has c ys
same_rest a xs ys h k e c = by (int_eq c a) refl
  where
    by : (t : Bool) → int_eq c a ≡ t → has c xs ≡ has c ys
    by true f = let g : c ≡ a = eq_same c a f in rw (g, below_lacks a xs h, below_lacks a ys k)
    by false f = let g : has c (a ∷ xs) ≡ has c (a ∷ ys) = e c in let g' : has c xs ≡ has c ys = rw f at g in g'

pub same_rising : (xs ys : List ℤ) → Rising xs → Rising ys → ((c : ℤ) → has c xs ≡ has c ys) → xs ≡ ys
unfolding IsStrictlySortedBy
same_rising [] [] h k e = refl
same_rising [] (b ∷ ys) h k e = absurd (clash (has b (b ∷ ys)) (has_first b ys) (sym (e b)))
same_rising (a ∷ xs) [] h k e = absurd (clash (has a (a ∷ xs)) (has_first a xs) (e a))
same_rising (a ∷ xs) (b ∷ ys) h k e =
    let f : a ≡ b = same_first a b xs ys h.0 k.0 (sym (e a) ∙ has_first a xs) (e b ∙ has_first b ys) in
    let h' : Below b xs = rw f at h.0 in
    let e' : (c : ℤ) → has c (b ∷ xs) ≡ has c (b ∷ ys) = rw f at e in
    rw f (ap (λ zs. b ∷ zs) (same_rising xs ys h.1 k.1 (same_rest b xs ys h' k.0 e')))

-- ---- an integer put in its place

-- a in its place in a rising list, where it is not there yet
unfoldable pub placed : ℤ → List ℤ → List ℤ
placed a [] = a ∷ []
placed a (b ∷ ys) = cond (lt_z b a) (b ∷ placed a ys) (cond (int_eq b a) (b ∷ ys) (a ∷ b ∷ ys))

or_again : (x z : Bool) → (x || z) ≡ (x || (x || z))
or_again true z = refl
or_again false z = refl

pub placed-has : (a : ℤ) (ys : List ℤ) (c : ℤ) → has c (placed a ys) ≡ (int_eq c a || has c ys)
unfolding placed
placed-has a [] c = refl
placed-has a (b ∷ ys) c = by (lt_z b a) (int_eq b a) refl refl (placed-has a ys c)
  where
    by : (t u : Bool) → lt_z b a ≡ t → int_eq b a ≡ u → has c (placed a ys) ≡ (int_eq c a || has c ys) → has c (placed a (b ∷ ys)) ≡ (int_eq c a || has c (b ∷ ys))
    by true u e f h = rw (e, h) (or_swap (int_eq c b) (int_eq c a) (has c ys))
    by false true e f h = rw (f, e, eq_same b a f) (or_again (int_eq c a) (has c ys))
    by false false e f h = rw (f, e)

below_placed : (b a : ℤ) (ys : List ℤ) → int_cmp b a ≡ Less → Below b ys → Below b (placed a ys)
unfolding placed
below_placed b a [] h k = (h, tt)
below_placed b a (c ∷ ys) h k = by (lt_z c a) (int_eq c a) refl refl (below_placed b a ys h k.1)
  where
    by : (t u : Bool) → lt_z c a ≡ t → int_eq c a ≡ u → Below b (placed a ys) → Below b (placed a (c ∷ ys))
    by true u e f m = rw e (k.0, m)
    by false true e f m = rw (f, e) k
    by false false e f m = rw (f, e) (h, k)

not_below : (a b : ℤ) → lt_z b a ≡ false → int_eq b a ≡ false → int_cmp a b ≡ Less
not_below a b h k = grind (arith, ints)

pub placed-rising : (a : ℤ) (ys : List ℤ) → Rising ys → Rising (placed a ys)
unfolding placed IsStrictlySortedBy
placed-rising a [] h = (tt, tt)
placed-rising a (b ∷ ys) h = by (lt_z b a) (int_eq b a) refl refl (placed-rising a ys h.1)
  where
    by : (t u : Bool) → lt_z b a ≡ t → int_eq b a ≡ u → Rising (placed a ys) → Rising (placed a (b ∷ ys))
    by true u e f m = rw e (below_placed b a ys (less-lt b a e) h.0, m)
    by false true e f m = rw (f, e) h
    by false false e f m = let l : int_cmp a b ≡ Less = not_below a b e f in rw (f, e) ((l, below_trans a b ys l h.0), h)
