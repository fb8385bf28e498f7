-- `header::put_header` meets its contract: three parts, one behind the other. Assumes nothing.
use Rattle.std.proofs.Common.{ℕ, ◌+◌, ◌≤◌, List, length, set, ap, ◌∙◌, arith, length-set}
use borrow.Rule.Slice.PartMut.{put_mid}
use Rattle.laws.specs.Written.{written}
use Rattle.paper.specs.File.{bytes_of}
use Rattle.header.specs.Header.{header_of}
use Rattle.words.proofs.Parts.{part_put}
use Rattle.header.proofs.Putting.{length_sized, header_put}
use Rattle.header.proofs.put_header.Goals as goal

pub returns : goal.returns
returns c =
    let s = c.args.out.now in
    let n = c.saturating_sub.result in
    let count = c.args.count in
    let first : List ℕ = put_mid 0 4 s c.put_number.new.out in
    let sized = part_put s c.put_number.new.out 0 4 n (omega arith) c.put_number.ensures in
    let room : 5 + 1 ≤ length (set first 4 2) = omega (arith, length-set first 4 2, ap length sized, length_sized s n count c.requires) in
    part_put (set first 4 2) c.put_number-2.new.out 5 1 count room c.put_number-2.ensures
    ∙ ap (λ (t : List ℕ). written (set t 4 2) 5 (bytes_of 1 count)) sized
    ∙ header_put s n count c.requires
    ∙ ap (λ (m : ℕ). written s 0 (header_of m count)) c.saturating_sub.ensures
