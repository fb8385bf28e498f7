-- What a change comes to by itself, what an arm's equipment comes to with a change more, and how much that may be.
use Rattle.std.specs.Prelude.{ℕ, ◌+ℤ◌}
use Rattle.paper.specs.declared.Change.{Change}
use Rattle.paper.specs.declared.Equipment.{Equipment}
use Rattle.paper.specs.Equipment.{nonlifting_part}

-- a change by itself, at its arm
abbrev pub alone : Change → Equipment
alone x = record { arm = x.arm; weight = x.c; nonlifting = nonlifting_part x }

-- an arm's equipment with a change there more
abbrev pub added : Equipment → Change → Equipment
added e x = record { arm = e.arm; weight = e.weight +ℤ x.c; nonlifting = e.nonlifting +ℤ nonlifting_part x }

-- how many grams a net is at most, either way: 64 changes of 2,000,000
abbrev pub most_net : ℕ
most_net = 128000000
