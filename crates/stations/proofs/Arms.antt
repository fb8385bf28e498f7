-- The column of arms: it rises and has just the arms of the changes, and no other list does. By induction on how many arms may
-- come: the foremost arm is one of the changes', none of theirs is ahead of it, and behind it fewer changes are left. Assumes
-- nothing.
use Rattle.std.specs.Prelude.{◌≡◌, refl, Bool, true, false, ◌&&◌, ◌||◌, List, [], ◌∷◌, map, ℕ, zero, suc, ◌≤◌, length, ℤ, ◌≤ℤ◌}
use Rattle.std.proofs.Common.{sym, ap, subst, ◌∙◌, arith, true≢false}
use Rattle.std.specs.List.{filter, list_any}
use Rattle.std.specs.List.Sorted.{IsStrictlySortedBy}
use Rattle.std.specs.declared.cmp.Ordering.TheVariants.{Less}
use Rattle.std.specs.Ordering.{int_eq, int_cmp}
use Rattle.std.specs.Int.Signed.{lt_z}
use Rattle.std.proofs.lemmas.Int.{ints}
use Rattle.std.proofs.lemmas.List.{length-map}
use Rattle.std.proofs.Math.Bool.{and-false}
use Rattle.laws.specs.Tests.{left, left_fails}
use Rattle.laws.specs.Rising.{has, eq_same, same_eq, less-lt, all_by_has, same_rising}
use Rattle.paper.specs.declared.Change.{Change}
use Rattle.paper.specs.declared.Equipment.{Equipment}
use Rattle.paper.specs.Equipment.{is_at, equipment_at, FromNose, foremost, arms_to, arms_of, equipment_of, arm_column}

-- a change of some is at an arm
abbrev lies : ℤ → List Change → Bool
lies a = list_any (is_at a)

-- the changes behind an arm
abbrev is_behind : ℤ → Change → Bool
is_behind a y = lt_z a y.arm

-- ---- the foremost

foremost_is : (a : ℤ) (xs : List Change) → (int_eq a (foremost a xs) || lies (foremost a xs) xs) ≡ true
unfolding foremost
foremost_is a [] = rw (same_eq a a refl)
foremost_is a (x ∷ xs) = by (lt_z x.arm a) refl (foremost_is x.arm xs) (foremost_is a xs)
  where
    first : (t u v : Bool) → (u || v) ≡ true → (t || (u || v)) ≡ true
    first true u v e = refl
    first false u v e = e

    second : (t u v : Bool) → (t || v) ≡ true → (t || (u || v)) ≡ true
    second true u v e = refl
    second false true v e = refl
    second false false v e = e

    by : (t : Bool) → lt_z x.arm a ≡ t → (int_eq x.arm (foremost x.arm xs) || lies (foremost x.arm xs) xs) ≡ true
        → (int_eq a (foremost a xs) || lies (foremost a xs) xs) ≡ true
        → (int_eq a (foremost a (x ∷ xs)) || lies (foremost a (x ∷ xs)) (x ∷ xs)) ≡ true
    by true e h k =
        let f : foremost a (x ∷ xs) ≡ foremost x.arm xs = rw (foremost, e) in
        subst (λ c. (int_eq a c || lies c (x ∷ xs)) ≡ true) (sym f)
        (first (int_eq a (foremost x.arm xs)) (int_eq x.arm (foremost x.arm xs)) (lies (foremost x.arm xs) xs) h)
    by false e h k =
        let f : foremost a (x ∷ xs) ≡ foremost a xs = rw (foremost, e) in
        subst (λ c. (int_eq a c || lies c (x ∷ xs)) ≡ true) (sym f)
        (second (int_eq a (foremost a xs)) (int_eq x.arm (foremost a xs)) (lies (foremost a xs) xs) k)

foremost_first : (a : ℤ) (xs : List Change) → foremost a xs ≤ℤ a
unfolding foremost
foremost_first a [] = grind (arith, ints)
foremost_first a (x ∷ xs) = by (lt_z x.arm a) refl (foremost_first x.arm xs) (foremost_first a xs)
  where
    by : (t : Bool) → lt_z x.arm a ≡ t → foremost x.arm xs ≤ℤ x.arm → foremost a xs ≤ℤ a → foremost a (x ∷ xs) ≤ℤ a
    by true e h k = rw e (grind (arith, ints))
    by false e h k = rw e k

foremost_least : (a : ℤ) (xs : List Change) (b : ℤ) → lies b xs ≡ true → foremost a xs ≤ℤ b
unfolding foremost
foremost_least a [] b e = absurd (true≢false (sym e))
foremost_least a (x ∷ xs) b e = by (lt_z x.arm a) (int_eq x.arm b) refl refl (foremost_least x.arm xs b) (foremost_least a xs b)
  where
    by : (t u : Bool) → lt_z x.arm a ≡ t → int_eq x.arm b ≡ u → (lies b xs ≡ true → foremost x.arm xs ≤ℤ b)
        → (lies b xs ≡ true → foremost a xs ≤ℤ b) → foremost a (x ∷ xs) ≤ℤ b
    by true true f g h k = rw (f, sym (eq_same x.arm b g)) (foremost_first x.arm xs)
    by true false f g h k = let e' : lies b xs ≡ true = rw g at e in rw f (h e')
    by false true f g h k = let l : foremost a xs ≤ℤ a = foremost_first a xs in let m : x.arm ≡ b = eq_same x.arm b g in rw f (grind (arith, ints))
    by false false f g h k = let e' : lies b xs ≡ true = rw g at e in rw f (k e')

-- ---- what is left behind an arm

-- a change behind f lies at a where one lies there and a is behind f
lies-behind : (f a : ℤ) (xs : List Change) → lies a (filter (is_behind f) xs) ≡ (lt_z f a && lies a xs)
lies-behind f a [] = sym (and-false (lt_z f a))
lies-behind f a (x ∷ xs) = by (lt_z f x.arm) (int_eq x.arm a) refl refl (lies-behind f a xs)
  where
    by : (t u : Bool) → lt_z f x.arm ≡ t → int_eq x.arm a ≡ u → lies a (filter (is_behind f) xs) ≡ (lt_z f a && lies a xs)
        → lies a (filter (is_behind f) (x ∷ xs)) ≡ (lt_z f a && lies a (x ∷ xs))
    by true true d e h = let g : lt_z f a ≡ true = rw (sym (eq_same x.arm a e)) d in rw (d, e, g)
    by true false d e h = rw (d, e) h
    by false true d e h = let g : lt_z f a ≡ false = rw (sym (eq_same x.arm a e)) d in rw (d, g) (h ∙ left_fails (lt_z f a) (lies a xs) g)
    by false false d e h = rw (d, e) h

-- where a change lies at f, fewer are behind it
length-behind : (f : ℤ) (xs : List Change) → length (filter (is_behind f) xs) ≤ length xs
length-behind f [] = omega arith
length-behind f (x ∷ xs) = by (lt_z f x.arm) refl (length-behind f xs)
  where
    by : (t : Bool) → lt_z f x.arm ≡ t → length (filter (is_behind f) xs) ≤ length xs → length (filter (is_behind f) (x ∷ xs)) ≤ suc (length xs)
    by true d h = rw d (omega arith)
    by false d h = rw d (omega arith)

fewer_behind : (f : ℤ) (xs : List Change) → lies f xs ≡ true → suc (length (filter (is_behind f) xs)) ≤ length xs
fewer_behind f [] e = absurd (true≢false (sym e))
fewer_behind f (x ∷ xs) e = by (lt_z f x.arm) refl (fewer_behind f xs) (length-behind f xs)
  where
    apart : lt_z f x.arm ≡ true → int_eq x.arm f ≡ false
    apart d = grind (arith, ints)

    by : (t : Bool) → lt_z f x.arm ≡ t → (lies f xs ≡ true → suc (length (filter (is_behind f) xs)) ≤ length xs)
        → length (filter (is_behind f) xs) ≤ length xs → suc (length (filter (is_behind f) (x ∷ xs))) ≤ suc (length xs)
    by true d h k = let m : int_eq x.arm f ≡ false = apart d in let e' : lies f xs ≡ true = rw m at e in let l = h e' in rw d (omega arith)
    by false d h k = rw d (omega arith)

-- ---- the column

-- f is the foremost arm, and as the column of the changes behind it
one_more : (f : ℤ) (xs : List Change) (arms : List ℤ) → lies f xs ≡ true → ((b : ℤ) → lies b xs ≡ true → f ≤ℤ b)
    → FromNose (filter (is_behind f) xs) arms → FromNose xs (f ∷ arms)
unfolding IsStrictlySortedBy
one_more f xs arms e h k = record { rising = (all_by_has (λ b. int_cmp f b ≡ Less) arms behind, k.rising); each = each }
  where
    behind : (b : ℤ) → has b arms ≡ true → int_cmp f b ≡ Less
    behind b m = less-lt f b (left (lt_z f b) (lies b xs) (sym (lies-behind f b xs) ∙ sym (k.each b) ∙ m))

    follows : (b : ℤ) → int_eq b f ≡ false → f ≤ℤ b → lt_z f b ≡ true
    follows b g l = grind (arith, ints)

    by : (b : ℤ) (t u : Bool) → int_eq b f ≡ t → lies b xs ≡ u → (int_eq b f || (lt_z f b && lies b xs)) ≡ lies b xs
    by b true u d g = let m : lies b xs ≡ true = rw (eq_same b f d) e in rw (d, m)
    by b false true d g = let m : lt_z f b ≡ true = follows b d (h b g) in rw (d, g, m)
    by b false false d g = rw (d, g) (and-false (lt_z f b))

    each : (b : ℤ) → (int_eq b f || has b arms) ≡ lies b xs
    each b = ap (λ t. int_eq b f || t) (k.each b ∙ lies-behind f b xs) ∙ by b (int_eq b f) (lies b xs) refl refl

arms_to_are : (n : ℕ) (xs : List Change) → length xs ≤ n → FromNose xs (arms_to n xs)
unfolding arms_to IsStrictlySortedBy
arms_to_are zero [] h = record { rising = tt; each = λ b. refl }
arms_to_are zero (x ∷ xs) h = absurd (omega arith)
arms_to_are (suc n) [] h = record { rising = tt; each = λ b. refl }
arms_to_are (suc n) (x ∷ xs) h =
    let f = foremost x.arm xs in
    let e : lies f (x ∷ xs) ≡ true = foremost_is x.arm xs in
    let l = fewer_behind f (x ∷ xs) e in
    one_more f (x ∷ xs) (arms_to n (filter (is_behind f) (x ∷ xs))) e least (arms_to_are n (filter (is_behind f) (x ∷ xs)) (omega arith))
  where
    least : (b : ℤ) → lies b (x ∷ xs) ≡ true → foremost x.arm xs ≤ℤ b
    least b e = by (int_eq x.arm b) refl
      where
        by : (t : Bool) → int_eq x.arm b ≡ t → foremost x.arm xs ≤ℤ b
        by true d = rw (sym (eq_same x.arm b d)) (foremost_first x.arm xs)
        by false d = let e' : lies b xs ≡ true = rw d at e in foremost_least x.arm xs b e'

pub arms_are : (xs : List Change) → FromNose xs (arms_of xs)
unfolding arms_of
arms_are xs = arms_to_are (length xs) xs (omega arith)

-- the column is the only one
pub only_arms : (xs : List Change) (arms : List ℤ) → FromNose xs arms → arms ≡ arms_of xs
only_arms xs arms h =
    same_rising arms (arms_of xs) h.rising (arms_are xs).rising (λ b. h.each b ∙ sym ((arms_are xs).each b))

-- there are no more of them than changes
length-arms_to : (n : ℕ) (xs : List Change) → length (arms_to n xs) ≤ n
unfolding arms_to
length-arms_to zero xs = omega arith
length-arms_to (suc n) [] = omega arith
length-arms_to (suc n) (x ∷ xs) = omega (arith, length-arms_to n (filter (is_behind (foremost x.arm xs)) (x ∷ xs)))

pub no_more_stations : (xs : List Change) → length (equipment_of xs) ≤ length xs
unfolding arms_of equipment_of
no_more_stations xs = omega (arith, length-arms_to (length xs) xs, length-map (arms_to (length xs) xs) (equipment_at xs))

-- the column of arms that is filled is this one
pub column_is : (xs : List Change) → arm_column (equipment_of xs) ≡ arms_of xs
unfolding arm_column equipment_of equipment_at
column_is xs = by (arms_of xs)
  where
    by : (arms : List ℤ) → map (λ (e : Equipment). e.arm) (map (equipment_at xs) arms) ≡ arms
    by [] = refl
    by (a ∷ arms) = rw (by arms)
