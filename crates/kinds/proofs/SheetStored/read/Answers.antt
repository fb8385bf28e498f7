-- A sheet of its fields, one behind the other. Assumes nothing.
use Rattle.std.proofs.Common.{◌≡◌, sym, ap, refl}
use Rattle.paper.specs.File.{layout_of, entry_of}
use Rattle.format.specs.Rows.{fields_at}
use Rattle.kinds.proofs.Read.{held, then_given, station_given}
use Rattle.kinds.proofs.SheetStored.read.Goals as goal

pub returns : goal.returns
unfolding layout_of entry_of
returns g c =
    let values : g.S.Source.given c.args.from.now (fields_at 2) ≡ _ =
    (then_given (held c.signed-fwd.type_inv c.signed-fwd.ensures)
    (then_given (held c.signed-aft.type_inv c.signed-aft.ensures)
    (then_given c.word-dry.ensures
    (then_given c.word-wet.ensures
    (then_given c.word-nlp.ensures
    (then_given (held c.signed-arm.type_inv c.signed-arm.ensures)
    (then_given c.word-least.ensures
    (then_given c.word.ensures
    (then_given c.word-2.ensures
    (station_given c.station.ensures
    (station_given c.station-2.ensures
    refl))))))))))) in
    ap (entry_of 2) (sym values)
