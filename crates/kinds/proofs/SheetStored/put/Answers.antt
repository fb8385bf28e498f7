-- A sheet put: its fields, one behind the other. Assumes nothing.
use Rattle.std.proofs.Common.{arith, rules, ℕ, List}
use borrow.Rule.Slice.PartMut.{put_mid}
use Rattle.paper.specs.declared.Entry.TheVariants as entry
use Rattle.paper.specs.File.{word, signed_word, layout_of, values_of, bytes_of, field_bytes, fields_bytes}
use Rattle.format.specs.Rows.{fields_at}
use Rattle.kinds.proofs.Put.{Put, all_put, then_put, none_put, signed_put}
use Rattle.kinds.proofs.SheetStored.put.Goals as goal

pub returns : goal.returns
unfolding layout_of bytes_of field_bytes fields_bytes
returns c =
    let a = c.args in
    let s0 : List ℕ = a.out.now in
    let s1 : List ℕ = put_mid 0 4 s0 c.put_signed.new.out in
    let s2 : List ℕ = put_mid 4 4 s1 c.put_signed-2.new.out in
    let s3 : List ℕ = put_mid 8 4 s2 c.put_number.new.out in
    let s4 : List ℕ = put_mid 12 4 s3 c.put_number-2.new.out in
    let s5 : List ℕ = put_mid 16 4 s4 c.put_number-3.new.out in
    let s6 : List ℕ = put_mid 20 4 s5 c.put_signed-3.new.out in
    let s7 : List ℕ = put_mid 24 4 s6 c.put_number-4.new.out in
    let s8 : List ℕ = put_mid 28 4 s7 c.put_number-5.new.out in
    let s9 : List ℕ = put_mid 32 4 s8 c.put_number-6.new.out in
    let s10 : List ℕ = put_mid 36 4 s9 c.put_signed-4.new.out in
    let s11 : List ℕ = put_mid 40 4 s10 c.put_number-7.new.out in
    let s12 : List ℕ = put_mid 44 4 s11 c.put_number-8.new.out in
    let s13 : List ℕ = put_mid 48 4 s12 c.put_signed-5.new.out in
    let s14 : List ℕ = put_mid 52 4 s13 c.put_number-9.new.out in
    let s15 : List ℕ = put_mid 56 4 s14 c.put_number-10.new.out in
    let put : Put (fields_at 2) (values_of (entry.Sheet a.self)) s0 0 s15 =
    (then_put signed_word _ _ _ s0 0 c.put_signed.new.out s15 (signed_put a.self.fwd _ _ (search rules) c.put_signed.ensures)
    (then_put signed_word _ _ _ s1 4 c.put_signed-2.new.out s15 (signed_put a.self.aft _ _ (search rules) c.put_signed-2.ensures)
    (then_put word _ _ _ s2 8 c.put_number.new.out s15 c.put_number.ensures
    (then_put word _ _ _ s3 12 c.put_number-2.new.out s15 c.put_number-2.ensures
    (then_put word _ _ _ s4 16 c.put_number-3.new.out s15 c.put_number-3.ensures
    (then_put signed_word _ _ _ s5 20 c.put_signed-3.new.out s15 (signed_put a.self.front.arm _ _ (search rules) c.put_signed-3.ensures)
    (then_put word _ _ _ s6 24 c.put_number-4.new.out s15 c.put_number-4.ensures
    (then_put word _ _ _ s7 28 c.put_number-5.new.out s15 c.put_number-5.ensures
    (then_put word _ _ _ s8 32 c.put_number-6.new.out s15 c.put_number-6.ensures
    (then_put signed_word _ _ _ s9 36 c.put_signed-4.new.out s15 (signed_put a.self.rear.arm _ _ (search rules) c.put_signed-4.ensures)
    (then_put word _ _ _ s10 40 c.put_number-7.new.out s15 c.put_number-7.ensures
    (then_put word _ _ _ s11 44 c.put_number-8.new.out s15 c.put_number-8.ensures
    (then_put signed_word _ _ _ s12 48 c.put_signed-5.new.out s15 (signed_put a.self.water.arm _ _ (search rules) c.put_signed-5.ensures)
    (then_put word _ _ _ s13 52 c.put_number-9.new.out s15 c.put_number-9.ensures
    (then_put word _ _ _ s14 56 c.put_number-10.new.out s15 c.put_number-10.ensures
    (none_put s15 60)))))))))))))))) in
    all_put _ _ s0 0 s15 put (omega arith)
