-- One change more: where its arm has a place it is added there, and else it is put where its arm belongs, and nothing else moves.
-- The arms afterwards are the column of the changes with that one, since there is one such column; the nets by induction on the
-- arms. Assumes nothing.
use Rattle.std.specs.Prelude.{◌≡◌, refl, Bool, true, false, ◌||◌, List, [], ◌∷◌, ◌++◌, map, ℕ, zero, suc, ◌≤◌, ◌<◌, length, get_or, set, ℤ, pos, ◌+ℤ◌}
use Rattle.std.proofs.Common.{sym, ap, ◌∙◌, inl, inr, arith, append-nil}
use Rattle.std.specs.List.{filter, list_any, insert}
use Rattle.std.specs.List.Sorted.{IsStrictlySortedBy}
use Rattle.std.specs.declared.cmp.Ordering.TheVariants.{Less, Greater}
use Rattle.std.specs.Ordering.{int_eq, int_cmp}
use Rattle.std.specs.Int.Signed.{lt_z}
use Rattle.std.proofs.lemmas.Int.{ints}
use Rattle.std.proofs.lemmas.Bool.{cases_lt}
use Rattle.std.proofs.lemmas.List.{length-map, get_or-map}
use Rattle.std.proofs.lemmas.List.Elements.{filter-append}
use Rattle.std.proofs.lemmas.Cmp.{int_eq_equiv}
use Rattle.laws.specs.Tests.{or_swap, not_left, not_right}
use Rattle.laws.specs.Rising.{has, Rising, Below, eq_same, same_eq, placed, placed-has, placed-rising, below_trans, below_has, has_at, below_lacks, less-eq}
use Rattle.paper.specs.declared.Change.{Change}
use Rattle.paper.specs.declared.Equipment.{Equipment}
use Rattle.paper.specs.Equipment.{total, nonlifting_part, is_at, equipment_at, arms_of, equipment_of}
use Rattle.stations.specs.More.{alone, added}
use Rattle.stations.proofs.Totals.{total-last}
use Rattle.stations.proofs.Arms.{arms_are, only_arms}

-- ---- at an arm

and_nought : (z : ℤ) → z +ℤ pos 0 ≡ z
and_nought z = omega (arith, ints)

-- no change lies there
none_there : (a : ℤ) (xs : List Change) → list_any (is_at a) xs ≡ false → filter (is_at a) xs ≡ []
none_there a [] e = refl
none_there a (x ∷ xs) e = by (is_at a x) refl (none_there a xs)
  where
    by : (t : Bool) → is_at a x ≡ t → (list_any (is_at a) xs ≡ false → filter (is_at a) xs ≡ []) → filter (is_at a) (x ∷ xs) ≡ []
    by true f h = cc
    by false f h = let e' : list_any (is_at a) xs ≡ false = rw f at e in rw f (h e')

elsewhere : (xs : List Change) (x : Change) (a : ℤ) → int_eq x.arm a ≡ false → equipment_at (xs ++ x ∷ []) a ≡ equipment_at xs a
unfolding equipment_at
elsewhere xs x a e = rw (filter-append (is_at a) xs (x ∷ []), e, append-nil (filter (is_at a) xs))

there : (xs : List Change) (x : Change) → equipment_at (xs ++ x ∷ []) x.arm ≡ added (equipment_at xs x.arm) x
unfolding equipment_at
there xs x =
    let f : filter (is_at x.arm) (x ∷ []) ≡ x ∷ [] = rw (same_eq x.arm x.arm refl) in
    rw (filter-append (is_at x.arm) xs (x ∷ []), f, total-last (λ (y : Change). y.c) (filter (is_at x.arm) xs) x, total-last nonlifting_part (filter (is_at x.arm) xs) x)

first_there : (xs : List Change) (x : Change) → list_any (is_at x.arm) xs ≡ false → equipment_at (xs ++ x ∷ []) x.arm ≡ alone x
unfolding equipment_at total
first_there xs x e =
    let f : filter (is_at x.arm) (x ∷ []) ≡ x ∷ [] = rw (same_eq x.arm x.arm refl) in
    rw (filter-append (is_at x.arm) xs (x ∷ []), none_there x.arm xs e, f, and_nought x.c, and_nought (nonlifting_part x))

-- ---- at the arms of a column

apart : (a b : ℤ) → int_cmp a b ≡ Less → int_eq b a ≡ false
apart a b h = grind (arith, ints)

before : (a b : ℤ) → int_cmp a b ≡ Less → lt_z a b ≡ true
before a b h = grind (arith, ints)

not_before : (a b : ℤ) → int_cmp b a ≡ Less → lt_z a b ≡ false
not_before a b h = grind (arith, ints)

-- none of them is the change's
elsewhere_all : (xs : List Change) (x : Change) (arms : List ℤ) → has x.arm arms ≡ false
    → map (equipment_at (xs ++ x ∷ [])) arms ≡ map (equipment_at xs) arms
elsewhere_all xs x [] e = refl
elsewhere_all xs x (b ∷ arms) e =
    rw (elsewhere xs x b (not_left (int_eq x.arm b) (has x.arm arms) e), elsewhere_all xs x arms (not_right (int_eq x.arm b) (has x.arm arms) e))

-- the one at a place is
changed_there : (xs : List Change) (x : Change) (arms : List ℤ) (at : ℕ) (d : Equipment) → Rising arms → at < length arms
    → get_or arms at x.arm ≡ x.arm
    → set (map (equipment_at xs) arms) at (added (get_or (map (equipment_at xs) arms) at d) x) ≡ map (equipment_at (xs ++ x ∷ [])) arms
unfolding IsStrictlySortedBy
changed_there xs x [] at d h l e = absurd (omega arith)
changed_there xs x (b ∷ arms) zero d h l e =
    let n : Below x.arm arms = rw e at h.0 in
    rw (e, there xs x, elsewhere_all xs x arms (below_lacks x.arm arms n))
changed_there xs x (b ∷ arms) (suc at) d h l e =
    let m : int_cmp b x.arm ≡ Less = below_has b arms h.0 x.arm (has_at x.arm arms at (omega arith) e) in
    rw (elsewhere xs x b (apart b x.arm m)) (ap (λ es. equipment_at xs b ∷ es) (changed_there xs x arms at d h.1 (omega arith) e))

-- it belongs at a place, with what is ahead of it before, and what is behind it from there on
put_there : (xs : List Change) (x : Change) (arms : List ℤ) (at : ℕ) → Rising arms → at ≤ length arms → list_any (is_at x.arm) xs ≡ false
    → ((j : ℕ) (d : ℤ) → j < at → int_cmp (get_or arms j d) x.arm ≡ Less) → ((j : ℕ) (d : ℤ) → at ≤ j → j < length arms → int_cmp x.arm (get_or arms j d) ≡ Less)
    → insert (map (equipment_at xs) arms) at (alone x) ≡ map (equipment_at (xs ++ x ∷ [])) (placed x.arm arms)
unfolding IsStrictlySortedBy placed
put_there xs x [] zero h l e f g = rw (first_there xs x e)
put_there xs x (b ∷ arms) zero h l e f g =
    let m : int_cmp x.arm b ≡ Less = g 0 b (omega arith) (omega arith) in
    let n : Below x.arm (b ∷ arms) = (m, below_trans x.arm b arms m h.0) in
    rw (apart x.arm b m, not_before b x.arm m, first_there xs x e)
    (ap (λ es. alone x ∷ es) (sym (elsewhere_all xs x (b ∷ arms) (below_lacks x.arm (b ∷ arms) n))))
put_there xs x [] (suc at) h l e f g = absurd (omega arith)
put_there xs x (b ∷ arms) (suc at) h l e f g =
    let m : int_cmp b x.arm ≡ Less = f 0 b (omega arith) in
    rw (before b x.arm m, elsewhere xs x b (apart b x.arm m))
    (ap (λ es. equipment_at xs b ∷ es) (put_there xs x arms at h.1 (omega arith) e (λ j d k. f (suc j) d (omega arith)) (λ j d k n. g (suc j) d (omega arith) (omega arith))))

-- ---- the whole column

-- the arms of some changes and one more: where its arm is among them they are the same, else it is put in its place
lies-last : (xs : List Change) (x : Change) (a : ℤ) → list_any (is_at a) (xs ++ x ∷ []) ≡ (int_eq a x.arm || list_any (is_at a) xs)
lies-last [] x a = ap (λ t. t || false) (int_eq_equiv.symm x.arm a)
lies-last (y ∷ xs) x a = ap (λ t. is_at a y || t) (lies-last xs x a) ∙ or_swap (is_at a y) (int_eq a x.arm) (list_any (is_at a) xs)

same_column : (xs : List Change) (x : Change) → has x.arm (arms_of xs) ≡ true → arms_of (xs ++ x ∷ []) ≡ arms_of xs
same_column xs x e = sym (only_arms (xs ++ x ∷ []) (arms_of xs) (record { rising = (arms_are xs).rising; each = each }))
  where
    by : (a : ℤ) (t : Bool) → int_eq a x.arm ≡ t → has a (arms_of xs) ≡ (int_eq a x.arm || has a (arms_of xs))
    by a true f = let g : has a (arms_of xs) ≡ true = rw (eq_same a x.arm f) e in rw f g
    by a false f = rw f

    each : (a : ℤ) → has a (arms_of xs) ≡ list_any (is_at a) (xs ++ x ∷ [])
    each a = by a (int_eq a x.arm) refl ∙ ap (λ t. int_eq a x.arm || t) ((arms_are xs).each a) ∙ sym (lies-last xs x a)

longer_column : (xs : List Change) (x : Change) → arms_of (xs ++ x ∷ []) ≡ placed x.arm (arms_of xs)
longer_column xs x =
    sym (only_arms (xs ++ x ∷ []) (placed x.arm (arms_of xs)) (record { rising = placed-rising x.arm (arms_of xs) (arms_are xs).rising; each = each }))
  where
    each : (a : ℤ) → has a (placed x.arm (arms_of xs)) ≡ list_any (is_at a) (xs ++ x ∷ [])
    each a =
        placed-has x.arm (arms_of xs) a ∙ ap (λ t. int_eq a x.arm || t) ((arms_are xs).each a) ∙ sym (lies-last xs x a)

-- ---- one change more

-- the arm at a place
pub arm_at : (xs : List Change) (arms : List ℤ) (j : ℕ) (a : ℤ) (d : Equipment) → j < length arms → (get_or (map (equipment_at xs) arms) j d).arm ≡ get_or arms j a
unfolding equipment_at
arm_at xs arms j a d h = ap (λ (e : Equipment). e.arm) (get_or-map (equipment_at xs) arms j a d h)

-- none of some arms is a
lacks_each : (a : ℤ) (arms : List ℤ) → ((j : ℕ) (d : ℤ) → j < length arms → int_eq a (get_or arms j d) ≡ false) → has a arms ≡ false
lacks_each a [] h = refl
lacks_each a (b ∷ arms) h = rw (h 0 b (omega arith)) (lacks_each a arms (λ j d l. h (suc j) d (omega arith)))

-- its arm has a place
pub more_there : (xs : List Change) (x : Change) (at : ℕ) (d : Equipment) → at < length (equipment_of xs) → (get_or (equipment_of xs) at d).arm ≡ x.arm
    → set (equipment_of xs) at (added (get_or (equipment_of xs) at d) x) ≡ equipment_of (xs ++ x ∷ [])
unfolding equipment_of
more_there xs x at d l e =
    let n = length-map (arms_of xs) (equipment_at xs) in
    let a : get_or (arms_of xs) at x.arm ≡ x.arm = sym (arm_at xs (arms_of xs) at x.arm d (omega arith)) ∙ e in
    rw (same_column xs x (has_at x.arm (arms_of xs) at (omega arith) a))
    (changed_there xs x (arms_of xs) at d (arms_are xs).rising (omega arith) a)

greater_less : (a b : ℤ) → int_cmp b a ≡ Greater → int_cmp a b ≡ Less
greater_less a b h = grind (arith, ints)

-- its arm has none, and this is where it belongs
pub more_between : (xs : List Change) (x : Change) (at : ℕ) → at ≤ length (equipment_of xs)
    → ((j : ℕ) (d : Equipment) → j < at → int_cmp (get_or (equipment_of xs) j d).arm x.arm ≡ Less)
    → ((j : ℕ) (d : Equipment) → at ≤ j → j < length (equipment_of xs) → int_cmp (get_or (equipment_of xs) j d).arm x.arm ≡ Greater)
    → insert (equipment_of xs) at (alone x) ≡ equipment_of (xs ++ x ∷ [])
unfolding equipment_of
more_between xs x at l f g =
    rw (longer_column xs x)
    (put_there xs x (arms_of xs) at (arms_are xs).rising (omega (arith, n)) (sym ((arms_are xs).each x.arm) ∙ lacks_each x.arm (arms_of xs) other) ahead behind)
  where
    n : length (map (equipment_at xs) (arms_of xs)) ≡ length (arms_of xs)
    n = length-map (arms_of xs) (equipment_at xs)

    ahead : (j : ℕ) (d : ℤ) → j < at → int_cmp (get_or (arms_of xs) j d) x.arm ≡ Less
    ahead j d h = rw (sym (arm_at xs (arms_of xs) j d (equipment_at xs d) (omega (arith, n)))) (f j (equipment_at xs d) h)

    behind : (j : ℕ) (d : ℤ) → at ≤ j → j < length (arms_of xs) → int_cmp x.arm (get_or (arms_of xs) j d) ≡ Less
    behind j d h k = rw (sym (arm_at xs (arms_of xs) j d (equipment_at xs d) k)) (greater_less x.arm (get_or (map (equipment_at xs) (arms_of xs)) j (equipment_at xs d)).arm (g j (equipment_at xs d) h (omega (arith, n))))

    other : (j : ℕ) (d : ℤ) → j < length (arms_of xs) → int_eq x.arm (get_or (arms_of xs) j d) ≡ false
    other j d k = elim (cases_lt j at) [
      | inl h ↦ apart (get_or (arms_of xs) j d) x.arm (ahead j d h)
      | inr h ↦ less-eq x.arm (get_or (arms_of xs) j d) (behind j d h k)
    ]
