-- How much the equipment of some changes comes to: at most 2,000,000 g a change, either way, by induction on the changes. Assumes
-- nothing.
use Rattle.std.specs.Prelude.{◌≡◌, Bool, true, false, cond, List, [], ◌∷◌, suc, ◌*◌, ◌≤◌, length, ℤ, pos, ◌+ℤ◌, eqb}
use Rattle.std.proofs.Common.{arith, SFits, to_z, of_z}
use Rattle.std.specs.Int.{w64}
use Rattle.std.specs.List.{All, filter}
use Rattle.std.proofs.lemmas.Int.{ints}
use Rattle.std.proofs.lemmas.List.Elements.{All-map}
use Rattle.laws.specs.Lists.{Each}
use Rattle.laws.specs.Z.{Within}
use Rattle.stations.specs.More.{most_net}
use Rattle.paper.specs.declared.Change.{Change}
use Rattle.paper.specs.declared.Equipment.{Equipment}
use Rattle.paper.specs.Refusals.{is_change}
use Rattle.paper.specs.Equipment.{total, nonlifting_part, is_at, equipment_at, arms_of, equipment_of}
use Rattle.paper.proofs.Changes.{weight_range}

-- a sum of what passes a test
most_in_all : (f : Change → ℤ) → ((x : Change) → is_change x ≡ true → Within 2000000 (f x)) → (p : Change → Bool) (xs : List Change)
    → Each (λ (x : Change). is_change x ≡ true) xs → Within (2000000 * length xs) (total f (filter p xs))
unfolding total
most_in_all f h p [] e = record { low = omega (arith, ints); high = omega (arith, ints) }
most_in_all f h p (x ∷ xs) e = by (p x) (h x e.0) (most_in_all f h p xs e.1)
  where
    by : (t : Bool) → Within 2000000 (f x) → Within (2000000 * length xs) (total f (filter p xs)) → Within (2000000 * suc (length xs)) (total f (cond t (x ∷ filter p xs) (filter p xs)))
    by true k m = record { low = omega (arith, ints, k.low, m.low); high = omega (arith, ints, k.high, m.high) }
    by false k m = record { low = omega (arith, ints, m.low); high = omega (arith, ints, m.high) }

pub weight_most : (x : Change) → is_change x ≡ true → Within 2000000 x.c
weight_most x e = let r = weight_range x e in record { low = omega (arith, ints, r.0); high = r.1 }

pub part_most : (x : Change) → is_change x ≡ true → Within 2000000 (nonlifting_part x)
part_most x e = by (eqb x.flag 1) (weight_most x e)
  where
    by : (t : Bool) → Within 2000000 x.c → Within 2000000 (cond t x.c (pos 0))
    by true k = k
    by false k = record { low = omega (arith, ints); high = omega (arith, ints) }

-- a change more, in registers
module _ (a b : ℤ) (f : SFits w64 a) (g : SFits w64 b) (h : Within most_net a) (k : Within 2000000 b) where
  pub sum_fits : SFits w64 (to_z w64 (of_z w64 a) +ℤ to_z w64 (of_z w64 b))
  sum_fits = record { sfits = grind (arith, ints) }

  pub sum_is : to_z w64 (of_z w64 (to_z w64 (of_z w64 a) +ℤ to_z w64 (of_z w64 b))) ≡ a +ℤ b
  sum_is = omega (arith, ints)

-- at an arm, and at every arm
module _ (xs : List Change) (l : length xs ≤ 64) (e : Each (λ (x : Change). is_change x ≡ true) xs) where
  within_at : (f : Change → ℤ) → ((x : Change) → is_change x ≡ true → Within 2000000 (f x)) → (a : ℤ) → Within most_net (total f (filter (is_at a) xs))
  within_at f h a =
      let w = most_in_all f h (is_at a) xs e in record { low = omega (arith, ints, w.low); high = omega (arith, ints, w.high) }

  pub weights_within : All (λ (x : Equipment). Within most_net x.weight) (equipment_of xs)
  unfolding equipment_of equipment_at
  weights_within = All-map (λ (x : Equipment). Within most_net x.weight) (equipment_at xs) (arms_of xs) (λ k d h. within_at (λ (x : Change). x.c) weight_most _)

  pub parts_within : All (λ (x : Equipment). Within most_net x.nonlifting) (equipment_of xs)
  unfolding equipment_of equipment_at
  parts_within = All-map (λ (x : Equipment). Within most_net x.nonlifting) (equipment_at xs) (arms_of xs) (λ k d h. within_at nonlifting_part part_most _)
