-- `nodhulika::put_words` meets its contract: one word behind the other. Assumes nothing.
use Rattle.std.proofs.Common.{◌≡◌, ℕ, List, length, ap, ◌∙◌, arith}
use borrow.Rule.Slice.PartMut.{put_mid}
use Rattle.laws.specs.Written.{length-written}
use Rattle.paper.specs.File.{bytes_of}
use Rattle.format.specs.Numbers.{length-bytes}
use Rattle.words.proofs.Parts.{part_put}
use Rattle.nodhulika.proofs.Into.{three_put}
use Rattle.nodhulika.proofs.put_words.Goals as goal

pub returns : goal.returns
returns c =
    let s = c.args.out.now in
    let x = c.args.x in
    let y = c.args.y in
    let a : List ℕ = put_mid 0 8 s c.put_number.new.out in
    let b : List ℕ = put_mid 8 8 a c.put_number-2.new.out in
    let z = c.args.z in
    let one = part_put s c.put_number.new.out 0 8 x (omega arith) c.put_number.ensures in
    let kept : length a ≡ length s =
    ap length one ∙ length-written s 0 (bytes_of 8 x) (omega (arith, length-bytes 8 x)) in
    let two = part_put a c.put_number-2.new.out 8 8 y (omega arith) c.put_number-2.ensures in
    let kept-2 : length b ≡ length a =
    ap length two ∙ length-written a 8 (bytes_of 8 y) (omega (arith, length-bytes 8 y)) in
    let three = part_put b c.put_number-3.new.out 16 8 z (omega arith) c.put_number-3.ensures in
    three_put s a b _ x y z c.requires one two three
