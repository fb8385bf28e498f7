-- A weighing put: its fields, one behind the other. Assumes nothing.
use Rattle.std.proofs.Common.{arith, rules}
use Rattle.paper.specs.declared.Entry.TheVariants as entry
use Rattle.paper.specs.File.{byte, word, signed_word, layout_of, values_of, bytes_of, field_bytes, fields_bytes}
use Rattle.format.specs.Rows.{fields_at}
use Rattle.kinds.proofs.Put.{Put, all_put, then_put, none_put, signed_put}
use Rattle.kinds.proofs.WeighingStored.put.Goals as goal

pub returns : goal.returns
unfolding layout_of bytes_of field_bytes fields_bytes
returns c =
    let a = c.args in
    let put : Put (fields_at 1) (values_of (entry.Weighing a.self)) a.out.now 0 _ =
    (then_put byte _ _ _ _ _ _ _ c.put_number.ensures
    (then_put word _ _ _ _ _ _ _ c.put_number-2.ensures
    (then_put word _ _ _ _ _ _ _ c.put_number-3.ensures
    (then_put signed_word _ _ _ _ _ _ _ (signed_put a.self.a _ _ (search rules) c.put_signed.ensures)
    (then_put word _ _ _ _ _ _ _ c.put_number-4.ensures
    (then_put word _ _ _ _ _ _ _ c.put_number-5.ensures
    (none_put _ _))))))) in
    all_put _ _ _ _ _ put (omega arith)
