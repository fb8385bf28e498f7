-- The nets by station add up to what the changes add in their order: a sum over the arms, each of what is at it, is the sum over
-- the changes, by induction on these; at each step a change is at one of the arms, and at no other since they rise. Assumes nothing.
use Rattle.std.specs.Prelude.{◌≡◌, refl, Bool, true, false, cond, List, [], ◌∷◌, map, eqb, ℤ, pos, ◌+ℤ◌, ◌*ℤ◌}
use Rattle.std.proofs.Common.{ap, ◌∙◌, arith, Less}
use Rattle.std.proofs.lemmas.Int.{ints}
use Rattle.std.proofs.lemmas.Bool.{or_left, or_right}
use Rattle.std.specs.List.{filter, list_any, AllByRecursion}
use Rattle.std.specs.List.Sorted.{IsStrictlySortedBy}
use Rattle.std.specs.Ordering.{is_eq, int_eq, int_cmp}
use Rattle.std.proofs.Math.Option.{some}
use Rattle.laws.specs.Lists.{Each}
use Rattle.laws.specs.Rising.{eq_same, same_eq}
use Rattle.laws.specs.Z.{is_nat, is_int, is_mul, same}
use Rattle.paper.specs.declared.Change.{Change}
use Rattle.paper.specs.declared.Entry.{Entry}
use Rattle.paper.specs.declared.Equipment.{Equipment}
use Rattle.paper.specs.Units.{half_grams}
use Rattle.paper.specs.Record.{Balance, Readings, with, changed, changed_by, weighed, last_weighing, balance_of}
use Rattle.paper.specs.Equipment.{total, nonlifting_part, is_at, equipment_at, FromNose, with_equipment, arms_of, equipment_of, fitted}
use Rattle.stations.proofs.Arms.{arms_are}
use Rattle.stations.proofs.Totals.{total_zero, total_add, total_times, total-map, total_same, total-filter}

-- ---- grams as half grams

half_times : (x a : ℤ) → half_grams x *ℤ a ≡ half_grams (x *ℤ a)
unfolding half_grams
half_times x a =
    same (is_mul (is_mul (is_nat 2) (is_int x)) (is_int a)) (is_mul (is_nat 2) (is_mul (is_int x) (is_int a))) (omega arith)

-- two at once, behind another
half_both : (z x y : ℤ) → z +ℤ half_grams x +ℤ half_grams y ≡ z +ℤ half_grams (x +ℤ y)
unfolding half_grams
half_both z x y = omega (arith, ints)

half_cond : (t : Bool) (x : ℤ) → cond t (half_grams x) (pos 0) ≡ half_grams (cond t x (pos 0))
unfolding half_grams
half_cond true x = refl
half_cond false x = refl

-- ---- one of the arms

-- what counts once, at the arm y
abbrev at : ℤ → (ℤ → ℤ) → ℤ → ℤ
at y v a = cond (int_eq y a) (v a) (pos 0)

-- arms that are all behind it have nothing
none_there : (y : ℤ) (v : ℤ → ℤ) (arms : List ℤ) → AllByRecursion (λ (a : ℤ). int_cmp y a ≡ Less) arms → total (at y v) arms ≡ pos 0
unfolding total
none_there y v [] h = refl
none_there y v (a ∷ arms) h = let e : int_eq y a ≡ false = ap is_eq h.0 in rw (e, none_there y v arms h.1)

-- rising arms that have it have it once
once_there : (y : ℤ) (v : ℤ → ℤ) (arms : List ℤ) → IsStrictlySortedBy int_cmp arms → list_any (int_eq y) arms ≡ true → total (at y v) arms ≡ v y
unfolding total IsStrictlySortedBy
once_there y v [] h e = cc
once_there y v (a ∷ arms) h e = by (int_eq y a) refl (λ e'. once_there y v arms h.1 e')
  where
    by : (t : Bool) → int_eq y a ≡ t → (list_any (int_eq y) arms ≡ true → total (at y v) arms ≡ v y) → at y v a +ℤ total (at y v) arms ≡ v y
    by true s later =
        let same_arm : y ≡ a = eq_same y a s in
        let none : total (at y v) arms ≡ pos 0 = none_there y v arms (rw same_arm h.0) in
        rw (none, s, same_arm) (omega (arith, ints))
    by false s later = let e' : list_any (int_eq y) arms ≡ true = rw s at e in rw (later e', s) (omega (arith, ints))

-- ---- from the arms to the changes

-- each change is at one of the arms
abbrev AtArms : List ℤ → List Change → Type 0
AtArms arms xs = Each (λ (x : Change). list_any (int_eq x.arm) arms ≡ true) xs

-- what a change counts may depend on the arm that it is found at
counted_once : (v : ℤ → Change → ℤ) (arms : List ℤ) → IsStrictlySortedBy int_cmp arms → (xs : List Change) → AtArms arms xs → total (λ (a : ℤ). total (λ (x : Change). cond (is_at a x) (v a x) (pos 0)) xs) arms ≡ total (λ (x : Change). v x.arm x) xs
unfolding total
counted_once v arms h [] e = total_zero arms
counted_once v arms h (x ∷ xs) e =
    total_add (at x.arm (λ (z : ℤ). v z x)) (λ (a : ℤ). total (λ (y : Change). cond (is_at a y) (v a y) (pos 0)) xs) arms
    ∙ rw (once_there x.arm (λ (z : ℤ). v z x) arms h e.0, counted_once v arms h xs e.1)

-- as they are, where the arms have each at which a change is
at_each : (arms : List ℤ) (xs : List Change) → ((a : ℤ) → list_any (is_at a) xs ≡ true → list_any (int_eq a) arms ≡ true) → AtArms arms xs
at_each arms [] h = tt
at_each arms (x ∷ xs) h =
    let here : int_eq x.arm x.arm ≡ true = same_eq x.arm x.arm refl in
    (h x.arm (or_left _ _ here), at_each arms xs (λ a e. h a (or_right _ _ e)))

by_arms : (v : ℤ → Change → ℤ) (xs : List Change) (arms : List ℤ) → FromNose xs arms → total (λ (a : ℤ). total (v a) (filter (is_at a) xs)) arms ≡ total (λ (x : Change). v x.arm x) xs
by_arms v xs arms h =
    total_same (λ (a : ℤ). total (v a) (filter (is_at a) xs))
    (λ (a : ℤ). total (λ (x : Change). cond (is_at a x) (v a x) (pos 0)) xs) (λ a. total-filter (v a) (is_at a) xs) arms
    ∙ counted_once v arms h.rising xs (at_each arms xs (λ a e. h.each a ∙ e))

-- ---- the nets by station

weight_by_station : (xs : List Change) (arms : List ℤ) → FromNose xs arms → total (λ (x : Equipment). x.weight) (map (equipment_at xs) arms) ≡ total (λ (x : Change). x.c) xs
unfolding equipment_at
weight_by_station xs arms h =
    total-map (λ (x : Equipment). x.weight) (equipment_at xs) arms
    ∙ by_arms (λ a x. x.c) xs arms h

moment_by_station : (xs : List Change) (arms : List ℤ) → FromNose xs arms → total (λ (x : Equipment). x.weight *ℤ x.arm) (map (equipment_at xs) arms) ≡ total (λ (x : Change). x.c *ℤ x.arm) xs
unfolding equipment_at
moment_by_station xs arms h =
    total-map (λ (x : Equipment). x.weight *ℤ x.arm) (equipment_at xs) arms
    ∙ total_same (λ (a : ℤ). total (λ (x : Change). x.c) (filter (is_at a) xs) *ℤ a)
    (λ (a : ℤ). total (λ (x : Change). x.c *ℤ a) (filter (is_at a) xs))
    (λ a. total_times (λ (x : Change). x.c) a (filter (is_at a) xs))
    arms
    ∙ by_arms (λ a x. x.c *ℤ a) xs arms h

nonlifting_by_station : (xs : List Change) (arms : List ℤ) → FromNose xs arms → total (λ (x : Equipment). x.nonlifting) (map (equipment_at xs) arms) ≡ total nonlifting_part xs
unfolding equipment_at
nonlifting_by_station xs arms h =
    total-map (λ (x : Equipment). x.nonlifting) (equipment_at xs) arms
    ∙ by_arms (λ a x. nonlifting_part x) xs arms h

-- ---- what the changes add in their order

-- a balance with so much more of each, in grams
abbrev pub more : Balance → ℤ → ℤ → ℤ → Balance
more b g m n =
    record {
      total = b.total +ℤ half_grams g;
      moment = b.moment +ℤ half_grams m;
      non_lifting = b.non_lifting +ℤ half_grams n;
    }

more_none : (b : Balance) → b ≡ more b (pos 0) (pos 0) (pos 0)
unfolding half_grams
more_none b =
    let e : (z : ℤ) → z ≡ z +ℤ pos 0 = λ z. omega (arith, ints) in
    λ i. record { total = e b.total i; moment = e b.moment i; non_lifting = e b.non_lifting i }

more_both : (b : Balance) (g m n g' m' n' : ℤ) → more (more b g m n) g' m' n' ≡ more b (g +ℤ g') (m +ℤ m') (n +ℤ n')
more_both b g m n g' m' n' =
    rw (half_both b.total g g', half_both b.moment m m', half_both b.non_lifting n n')

changed_more : (b : Balance) (x : Change) → changed b x ≡ more b x.c (x.c *ℤ x.arm) (nonlifting_part x)
unfolding changed with
changed_more b x = rw (half_times x.c x.arm, half_cond (eqb x.flag 1) x.c)

pub changed_by_sums : (b : Balance) (xs : List Change) → changed_by b xs ≡ more b (total (λ (x : Change). x.c) xs) (total (λ (x : Change). x.c *ℤ x.arm) xs) (total nonlifting_part xs)
unfolding changed_by total
changed_by_sums b [] = more_none b
changed_by_sums b (x ∷ xs) =
    changed_by_sums (changed b x) xs
    ∙ rw (changed_more b x) (more_both b x.c (x.c *ℤ x.arm) (nonlifting_part x)
    (total (λ (y : Change). y.c) xs) (total (λ (y : Change). y.c *ℤ y.arm) xs) (total nonlifting_part xs))

equipment_adds : (xs : List Change) (arms : List ℤ) → FromNose xs arms → (b : Balance) → changed_by b xs ≡ with_equipment b (map (equipment_at xs) arms)
unfolding with_equipment
equipment_adds xs arms h b =
    changed_by_sums b xs ∙ rw (weight_by_station xs arms h, moment_by_station xs arms h, nonlifting_by_station xs arms h)

-- so a list's balance is that of its last weighing with the equipment behind it
pub balance_by_station : (es : List Entry) (r : Readings) (xs : List Change) → last_weighing es ≡ some (r, xs) → balance_of es ≡ some (with_equipment (weighed r) (equipment_of (fitted es)))
unfolding balance_of fitted equipment_of
balance_by_station es r xs h = rw h (ap some (equipment_adds xs (arms_of xs) (arms_are xs) (weighed r)))
