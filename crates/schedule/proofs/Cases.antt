-- Some numbers as they are written, and the schedule of no equipment, computed from the definitions. Assumes nothing.
use Rattle.std.proofs.Common.{◌≡◌, refl, [], ◌∷◌, ◌++◌, pos, negsuc}
use Rattle.std.specs.Prelude.{codes}
use Rattle.paper.specs.Rows.{joined}
use Rattle.paper.specs.Placard.{feed, digits}
use Rattle.paper.specs.Equipment.{total}
use Rattle.numerals.specs.Numerals.{places_in, decimal}
use Rattle.schedule.specs.Schedules.{decimals, fixed, nets, sums, schedule}

pub below_one : fixed 2 (negsuc 4) ≡ codes "-0.05"
unfolding fixed decimals decimal places_in digits
below_one = refl

pub nothing : fixed 2 (pos 0) ≡ codes "0.00"
unfolding fixed decimals decimal places_in digits
nothing = refl

pub some_kilograms : fixed 3 (negsuc 4499) ≡ codes "-4.500"
unfolding fixed decimals decimal places_in digits
some_kilograms = refl

pub no_equipment : schedule [] ≡ codes "sum 0.000 0.000" ++ feed ∷ []
unfolding schedule sums nets fixed decimals decimal places_in digits joined total
no_equipment = refl
