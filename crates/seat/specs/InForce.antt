-- What is in force, as the code carries it: a sheet, and the ends that its front arm lies between.
use Rattle.std.specs.Prelude.{List, Some, None}
use Rattle.std.specs.Prelude.{Option as RustOption}
use Rattle.std.proofs.Math.Option.{Option, none, some, map}
use Rattle.paper.specs.declared.Sheet.{Sheet}
use Rattle.paper.specs.declared.Seat.{Seat}
use Rattle.paper.specs.declared.Entry.{Entry}
use Rattle.paper.specs.declared.Entry.TheVariants as entry
use Rattle.paper.specs.Record.{sheet_of, seat_of, ends_of}
use Rattle.seat.specs.declared.InForce.{InForce}

abbrev pub as_pair : InForce → Sheet × Seat
as_pair x = (x.sheet, x.seat)

abbrev pub found : RustOption InForce → Option (Sheet × Seat)
found None = none
found (Some x) = some (as_pair x)

-- of a list: its sheet in force, with the ends that the paper gives it
abbrev pub with_ends : Option Seat → Sheet → Sheet × Seat
with_ends o s = (s, ends_of s o)

unfoldable pub in_force : List Entry → Option (Sheet × Seat)
in_force es = map (with_ends (seat_of es)) (sheet_of es)

-- the same sheet with other ends
abbrev pub moved : Seat → Sheet × Seat → Sheet × Seat
moved f x = (x.0, f)

-- one entry more: a sheet comes with its own arm, a seat entry moves the ends
abbrev pub after : Option (Sheet × Seat) → Entry → Option (Sheet × Seat)
after o (entry.Weighing w) = o
after o (entry.Sheet s) = some (s, ends_of s none)
after o (entry.Change x) = o
after o (entry.Paired x) = o
after o (entry.Seat f) = map (moved f) o
