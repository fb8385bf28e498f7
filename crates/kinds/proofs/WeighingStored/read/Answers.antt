-- A weighing of its fields, one behind the other. Assumes nothing.
use Rattle.std.proofs.Common.{◌≡◌, sym, ap, refl}
use Rattle.paper.specs.File.{layout_of, entry_of}
use Rattle.format.specs.Rows.{fields_at}
use Rattle.kinds.proofs.Read.{held, then_given}
use Rattle.kinds.proofs.WeighingStored.read.Goals as goal

pub returns : goal.returns
unfolding layout_of entry_of
returns g c =
    let values : g.S.Source.given c.args.from.now (fields_at 1) ≡ _ =
    (then_given c.byte.ensures
    (then_given c.word.ensures
    (then_given c.word-2.ensures
    (then_given (held c.signed.type_inv c.signed.ensures)
    (then_given c.word-3.ensures
    (then_given c.word-4.ensures
    refl)))))) in
    ap (entry_of 1) (sym values)
