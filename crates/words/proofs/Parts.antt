-- A number put into a part of a slice, which is as long as the part: it is written at its place in the whole. Assumes nothing.
use Rattle.std.proofs.Common.{◌≡◌, ℕ, ◌+◌, ◌≤◌, List, length, take, drop, ap, ◌∙◌, arith, length-drop}
use lib.Seq.{length-take-le}
use borrow.Rule.Slice.PartMut.{put_mid}
use Rattle.laws.specs.Written.{written, middle-written}
use Rattle.paper.specs.File.{bytes_of}
use Rattle.format.specs.Numbers.{length-bytes}

pub part_put : (s last : List ℕ) (at k n : ℕ) → at + k ≤ length s → last ≡ bytes_of (length (take k (drop at s))) n → put_mid at k s last ≡ written s at (bytes_of k n)
part_put s last at k n h e =
    let room : length (take k (drop at s)) ≡ k = length-take-le k (drop at s) (omega (arith, length-drop at s)) in
    middle-written s last (bytes_of k n) at k (length-bytes k n) (e ∙ ap (λ (w : ℕ). bytes_of w n) room)
