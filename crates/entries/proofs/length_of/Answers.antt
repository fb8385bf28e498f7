-- `entries::length_of` meets its contract: the kind, and as much as its row says. Assumes nothing.
use Rattle.std.proofs.Common.{ap}
use Rattle.paper.specs.File.{kind_of}
use Rattle.kinds.specs.Values.{total_weighing, total_sheet, total_change, total_paired, total_seat}
use Rattle.entries.proofs.Rows.{size_at}
use Rattle.entries.proofs.length_of.Goals as goal

pub returns-in-Weighing : goal.returns-in-Weighing
returns-in-Weighing c = size_at c.args.e 1 21 (ap kind_of c.in-Weighing.is) total_weighing

pub returns-in-Sheet : goal.returns-in-Sheet
returns-in-Sheet c = size_at c.args.e 2 60 (ap kind_of c.in-Sheet.is) total_sheet

pub returns-in-Change : goal.returns-in-Change
returns-in-Change c = size_at c.args.e 3 9 (ap kind_of c.in-Change.is) total_change

pub returns-in-Paired : goal.returns-in-Paired
returns-in-Paired c = size_at c.args.e 4 29 (ap kind_of c.in-Paired.is) total_paired

pub returns-in-Seat : goal.returns-in-Seat
returns-in-Seat c = size_at c.args.e 5 8 (ap kind_of c.in-Seat.is) total_seat
