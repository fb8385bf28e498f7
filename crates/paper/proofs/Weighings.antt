-- Two readings that get no number have none of a weighing's conditions: each taken off its order in turn. Assumes nothing.
use mathlib.Core.Path.{◌≡◌}
use mathlib.Core.Bool.{false}
use mathlib.Core.List.{[], ◌∷◌}
use native.Mathlib.Omega.{arith}
use Rattle.laws.specs.Tests.{not_left, not_right}
use Rattle.paper.specs.declared.Weighing.{Weighing}
use Rattle.paper.specs.Record.{Readings}
use Rattle.paper.specs.Refusals.{◌when◌, first_number, bad_reading, bad_distance, bad_part, either, weighing_faults}
use Rattle.paper.proofs.Numbers.{no_first, no_other}

-- a reading has no condition
abbrev pub Fine : Weighing → Type 0
Fine w = (bad_reading w ≡ false) × (bad_distance w ≡ false) × (bad_part w ≡ false)

module _ (x : Readings) (clear : first_number (weighing_faults x) ≡ 0) where
  behind_1 : first_number (2 when either bad_distance x ∷ 3 when either bad_part x ∷ []) ≡ 0
  unfolding weighing_faults
  behind_1 = no_other 1 (either bad_reading x) _ (omega arith) clear

  no_reading : either bad_reading x ≡ false
  unfolding weighing_faults
  no_reading = no_first 1 (either bad_reading x) _ (omega arith) clear

  no_distance : either bad_distance x ≡ false
  no_distance = no_first 2 (either bad_distance x) _ (omega arith) behind_1

  no_part : either bad_part x ≡ false
  no_part = no_first 3 (either bad_part x) [] (omega arith) (no_other 2 (either bad_distance x) _ (omega arith) behind_1)

  pub first_fine : Fine x.first
  first_fine = (not_left _ _ no_reading, not_left _ _ no_distance, not_left _ _ no_part)

  pub second_fine : Fine x.second
  second_fine = (
    not_right (bad_reading x.first) _ no_reading,
    not_right (bad_distance x.first) _ no_distance,
    not_right (bad_part x.first) _ no_part,
  )
