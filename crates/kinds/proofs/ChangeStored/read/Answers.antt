-- A change of its fields, one behind the other. Assumes nothing.
use Rattle.std.proofs.Common.{◌≡◌, sym, ap, refl}
use Rattle.paper.specs.File.{layout_of, entry_of}
use Rattle.format.specs.Rows.{fields_at}
use Rattle.kinds.proofs.Read.{held, then_given}
use Rattle.kinds.proofs.ChangeStored.read.Goals as goal

pub returns : goal.returns
unfolding layout_of entry_of
returns g c =
    let values : g.S.Source.given c.args.from.now (fields_at 3) ≡ _ =
    (then_given (held c.signed.type_inv c.signed.ensures)
    (then_given (held c.signed-2.type_inv c.signed-2.ensures)
    (then_given c.byte.ensures
    refl))) in
    ap (entry_of 3) (sym values)
