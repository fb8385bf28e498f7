-- "Equipment by station" (paper 02, card 5): what the changes behind the last weighing of a list come to at each arm, and when two
-- lists have the same changes in another order.
use Rattle.std.specs.Prelude.{◌≡◌, Bool, cond, List, [], ◌∷◌, map, ℕ, zero, suc, eqb, ℤ, pos, ◌+ℤ◌, ◌*ℤ◌, length}
use Rattle.std.specs.List.{filter, list_any, AllZip}
use Rattle.std.specs.List.Sorted.{IsStrictlySortedBy, IsPermutation}
use Rattle.std.specs.Ordering.{int_eq, int_cmp}
use Rattle.std.specs.Int.Signed.{lt_z}
use Rattle.std.proofs.Math.Option.{Option, none, some}
use Rattle.paper.specs.declared.Change.{Change}
use Rattle.paper.specs.declared.Entry.{Entry}
use Rattle.paper.specs.declared.Entry.TheVariants as entry
use Rattle.paper.specs.declared.Equipment.{Equipment}
use Rattle.paper.specs.Units.{half_grams}
use Rattle.paper.specs.Record.{Balance, Readings, last_weighing}

-- the changes behind the last weighing, none of them where the list has no weighing
abbrev pub changes_behind : Option (Readings × List Change) → List Change
changes_behind none = []
changes_behind (some x) = x.1

unfoldable pub fitted : List Entry → List Change
fitted es = changes_behind (last_weighing es)

-- ---- what stands at an arm

-- the sum of what each of a list counts
unfoldable pub total : {A : Type 0} → (A → ℤ) → List A → ℤ
total f [] = pos 0
total f (x ∷ xs) = f x +ℤ total f xs

-- what a change counts of the non-lifting weight: all of it where its flag is 1
abbrev pub nonlifting_part : Change → ℤ
nonlifting_part x = cond (eqb x.flag 1) x.c (pos 0)

-- whether a change is at an arm
abbrev pub is_at : ℤ → Change → Bool
is_at a x = int_eq x.arm a

-- the net weight, and the net non-lifting weight, of those of some changes that are at an arm, in grams
unfoldable pub equipment_at : List Change → ℤ → Equipment
equipment_at xs a =
    record {
      arm = a;
      weight = total (λ (x : Change). x.c) (filter (is_at a) xs);
      nonlifting = total nonlifting_part (filter (is_at a) xs);
    }

-- ---- the arms, from the nose aft

-- each arm of some changes once, the foremost first: the column of arms, of which there is one
pub record FromNose (xs : List Change) (arms : List ℤ) : Type 0 where
  pub rising : IsStrictlySortedBy int_cmp arms
  pub each : (a : ℤ) → list_any (int_eq a) arms ≡ list_any (is_at a) xs

-- the foremost of an arm and those of some changes
unfoldable pub foremost : ℤ → List Change → ℤ
foremost a [] = a
foremost a (x ∷ xs) = foremost (cond (lt_z x.arm a) x.arm a) xs

-- the foremost arm of some changes, and then those of the changes that are behind it, n arms at most
unfoldable pub arms_to : ℕ → List Change → List ℤ
arms_to zero xs = []
arms_to (suc n) [] = []
arms_to (suc n) (x ∷ xs) =
    foremost x.arm xs ∷ arms_to n (filter (λ (y : Change). lt_z (foremost x.arm xs) y.arm) (x ∷ xs))

unfoldable pub arms_of : List Change → List ℤ
arms_of xs = arms_to (length xs) xs

-- what some changes come to, by station
unfoldable pub equipment_of : List Change → List Equipment
equipment_of xs = map (equipment_at xs) (arms_of xs)

-- the columns that are filled: the arms, and the nets there
unfoldable pub arm_column : List Equipment → List ℤ
arm_column = map (λ (x : Equipment). x.arm)

unfoldable pub weight_column : List Equipment → List ℤ
weight_column = map (λ (x : Equipment). x.weight)

unfoldable pub nonlifting_column : List Equipment → List ℤ
nonlifting_column = map (λ (x : Equipment). x.nonlifting)

-- a balance with the equipment of some stations more: the nets, and the nets at their arms
unfoldable pub with_equipment : Balance → List Equipment → Balance
with_equipment b es =
    record {
      total = b.total +ℤ half_grams (total (λ (x : Equipment). x.weight) es);
      moment = b.moment +ℤ half_grams (total (λ (x : Equipment). x.weight *ℤ x.arm) es);
      non_lifting = b.non_lifting +ℤ half_grams (total (λ (x : Equipment). x.nonlifting) es);
    }

-- ---- the same changes in another order

-- the entries that are no change, in their order
unfoldable pub unchanging : List Entry → List Entry
unchanging [] = []
unchanging (entry.Weighing w ∷ es) = entry.Weighing w ∷ unchanging es
unchanging (entry.Sheet s ∷ es) = entry.Sheet s ∷ unchanging es
unchanging (entry.Change x ∷ es) = unchanging es
unchanging (entry.Paired x ∷ es) = entry.Paired x ∷ unchanging es
unchanging (entry.Seat f ∷ es) = entry.Seat f ∷ unchanging es

-- a change in front of those of the first stretch
abbrev pub in_first : Change → List (List Change) → List (List Change)
in_first x [] = (x ∷ []) ∷ []
in_first x (xs ∷ xss) = (x ∷ xs) ∷ xss

-- the changes of a list by stretches, each in its order: those before the first weighing, and from each weighing those to the
-- next or the end, wherever among sheets and seats they stand
unfoldable pub stretches : List Entry → List (List Change)
stretches [] = [] ∷ []
stretches (entry.Weighing w ∷ es) = [] ∷ stretches es
stretches (entry.Sheet s ∷ es) = stretches es
stretches (entry.Change x ∷ es) = in_first x (stretches es)
stretches (entry.Paired x ∷ es) = [] ∷ stretches es
stretches (entry.Seat f ∷ es) = stretches es

-- two lists with equal weighing, sheet and seat entries in equal order, and from each weighing to the next or the end the same
-- changes in any order
pub record SameButOrder (es fs : List Entry) : Type 0 where
  pub others : unchanging es ≡ unchanging fs
  pub changes : AllZip IsPermutation (stretches es) (stretches fs)
