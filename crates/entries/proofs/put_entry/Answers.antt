-- `entries::put_entry` meets its contract, by the kind of the entry. Assumes nothing.
use Rattle.std.proofs.Common.{sym, ap, ◌∙◌, arith}
use Rattle.laws.specs.Written.{written}
use Rattle.paper.specs.declared.Entry.{Entry}
use Rattle.paper.specs.File.{kind_of, entry_bytes}
use Rattle.kinds.specs.Values.{total_weighing, total_sheet, total_change, total_paired, total_seat}
use Rattle.entries.proofs.Rows.{size_at}
use Rattle.entries.proofs.put_entry.Goals as goal

pub put_stored-requires : goal.put_stored-requires
put_stored-requires c = omega (arith, size_at c.args.e 1 21 (ap kind_of c.in-Weighing.is) total_weighing)

pub returns-in-Weighing : goal.returns-in-Weighing
unfolding entry_bytes
returns-in-Weighing c =
    let a = c.args in
    let put = c.put_stored.ensures in (
      omega (arith, put.0, size_at a.e 1 21 (ap kind_of c.in-Weighing.is) total_weighing),
      put.1 ∙ ap (λ (e : Entry). written a.out.now 0 (entry_bytes e)) (sym c.in-Weighing.is),
    )

pub put_stored-requires-in-Sheet : goal.put_stored-requires-in-Sheet
put_stored-requires-in-Sheet c = omega (arith, size_at c.args.e 2 60 (ap kind_of c.in-Sheet.is) total_sheet)

pub returns-in-Sheet : goal.returns-in-Sheet
unfolding entry_bytes
returns-in-Sheet c =
    let a = c.args in
    let put = c.put_stored-in-Sheet.ensures in (
      omega (arith, put.0, size_at a.e 2 60 (ap kind_of c.in-Sheet.is) total_sheet),
      put.1 ∙ ap (λ (e : Entry). written a.out.now 0 (entry_bytes e)) (sym c.in-Sheet.is),
    )

pub put_stored-requires-in-Change : goal.put_stored-requires-in-Change
put_stored-requires-in-Change c = omega (arith, size_at c.args.e 3 9 (ap kind_of c.in-Change.is) total_change)

pub returns-in-Change : goal.returns-in-Change
unfolding entry_bytes
returns-in-Change c =
    let a = c.args in
    let put = c.put_stored-in-Change.ensures in (
      omega (arith, put.0, size_at a.e 3 9 (ap kind_of c.in-Change.is) total_change),
      put.1 ∙ ap (λ (e : Entry). written a.out.now 0 (entry_bytes e)) (sym c.in-Change.is),
    )

pub put_stored-requires-in-Paired : goal.put_stored-requires-in-Paired
put_stored-requires-in-Paired c = omega (arith, size_at c.args.e 4 29 (ap kind_of c.in-Paired.is) total_paired)

pub returns-in-Paired : goal.returns-in-Paired
unfolding entry_bytes
returns-in-Paired c =
    let a = c.args in
    let put = c.put_stored-in-Paired.ensures in (
      omega (arith, put.0, size_at a.e 4 29 (ap kind_of c.in-Paired.is) total_paired),
      put.1 ∙ ap (λ (e : Entry). written a.out.now 0 (entry_bytes e)) (sym c.in-Paired.is),
    )

pub put_stored-requires-in-Seat : goal.put_stored-requires-in-Seat
put_stored-requires-in-Seat c = omega (arith, size_at c.args.e 5 8 (ap kind_of c.in-Seat.is) total_seat)

pub returns-in-Seat : goal.returns-in-Seat
unfolding entry_bytes
returns-in-Seat c =
    let a = c.args in
    let put = c.put_stored-in-Seat.ensures in (
      omega (arith, put.0, size_at a.e 5 8 (ap kind_of c.in-Seat.is) total_seat),
      put.1 ∙ ap (λ (e : Entry). written a.out.now 0 (entry_bytes e)) (sym c.in-Seat.is),
    )
