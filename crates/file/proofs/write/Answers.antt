-- `file::write` meets its contract: the record replayed is that of its list, so what is measured and put is the list's file.
-- Assumes nothing.
use Rattle.std.proofs.Common.{◌≡◌, sym, ap, ◌∙◌, length, ◌≤◌, Ok}
use mathlib.Core.List.{List}
use native.Mathlib.Omega.{arith}
use Rattle.paper.specs.declared.Entry.{Entry}
use Rattle.paper.specs.File.{file_bytes}
use Rattle.record.specs.Held.{slotted, held_by}
use Rattle.record.proofs.Lists.{slotted_record}
use Rattle.record.proofs.Replays.{held_most}
use Rattle.stored.proofs.Parts.{file_size, too_short, long_enough}
use Rattle.file.proofs.Writing.{put_in_all}
use Rattle.file.proofs.RoundTrips.{Written}
use Rattle.file.proofs.write.Goals as goal

-- the slots in use hold the list that the record holds
pub length_of-length-requires : goal.length_of-length-requires
length_of-length-requires c =
    let es = held_by c.args.r.now in
    let entries = c.entries-list.ensures ∙ ap slotted c.replay-now.ensures.log ∙ slotted_record es in
    omega (arith, ap length entries, held_most c.args.r.now)

pub returns-then-out-length : goal.returns-then-out-length
returns-then-out-length c =
    let es = held_by c.args.r.now in
    let entries = c.entries-list.ensures ∙ ap slotted c.replay-now.ensures.log ∙ slotted_record es in
    let size : c.length_of-length.result ≡ length (file_bytes es) = c.length_of-length.ensures ∙ ap (λ (fs : List Entry). length (file_bytes fs)) entries in
    sym (too_short es c.args.out.now (omega (arith, size)))

pub put_header-requires : goal.put_header-requires
put_header-requires c = omega (arith, c.length_of-length.ensures, file_size c.entries-list.result.now)

pub returns : goal.returns
returns c =
    let es = held_by c.args.r.now in
    let s = c.args.out.now in
    let entries = c.entries-list.ensures ∙ ap slotted c.replay-now.ensures.log ∙ slotted_record es in
    let size : c.length_of-length.result ≡ length (file_bytes es) = c.length_of-length.ensures ∙ ap (λ (fs : List Entry). length (file_bytes fs)) entries in
    let room : length (file_bytes es) ≤ length s = omega (arith, size) in
    let put = put_in_all es _ s c.put_header.new.out c.put_entries.new.out c.length_of-length.result _ entries size (ap length entries) room c.put_header.ensures c.put_entries.ensures in
    let told : ◌≡◌ {A = Written} (Ok c.length_of-length.result, c.put_entries.new.out) _ = λ i. (Ok (size i), put i) in
    told ∙ sym (long_enough es s room)
