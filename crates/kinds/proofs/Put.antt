-- Fields put one behind the other, each into the part of a buffer that is its own. Assumes nothing.
use Rattle.std.proofs.Common.{◌≡◌, ℕ, ◌+◌, ◌^◌, ◌≤◌, ◌<◌, ℤ, List, [], ◌∷◌, length, take, drop, sym, ap, ◌∙◌, arith, length-append}
use mir.Syntax.{w64}
use mir.Val.{hbits, to_z, of_z}
use mir.Facts.{to_z-of_z}
use lib.Signed.{mag}
use borrow.Rule.Slice.PartMut.{put_mid}
use Rattle.laws.specs.Written.{written, written_none, length-written, written-more}
use Rattle.paper.specs.File.{Field, bytes_of, complement, field_bytes, fields_bytes}
use Rattle.format.specs.Numbers.{length-bytes}
use Rattle.words.proofs.Parts.{part_put}

-- the fields end as they are put, where there is room for them
unfoldable pub Put : List Field → List ℤ → List ℕ → ℕ → List ℕ → Type 0
Put fs vs s at end = at + length (fields_bytes fs vs) ≤ length s → end ≡ written s at (fields_bytes fs vs)

pub all_put : (fs : List Field) (vs : List ℤ) (s : List ℕ) (at : ℕ) (end : List ℕ) → Put fs vs s at end → at + length (fields_bytes fs vs) ≤ length s → end ≡ written s at (fields_bytes fs vs)
unfolding Put
all_put fs vs s at end p = p

-- none is left
pub none_put : (s : List ℕ) (at : ℕ) → Put [] [] s at s
unfolding Put fields_bytes
none_put s at h = sym (written_none s at)

-- a field in its part, and those behind it
pub then_put : (f : Field) (fs : List Field) (v : ℤ) (vs : List ℤ) (s : List ℕ) (at : ℕ) (last end : List ℕ) → last ≡ bytes_of (length (take f.width (drop at s))) (complement f.width v) → Put fs vs (put_mid at f.width s last) (at + f.width) end → Put (f ∷ fs) (v ∷ vs) s at end
unfolding Put fields_bytes field_bytes
then_put f fs v vs s at last end m q h =
    let xs = field_bytes f v in
    let ys = fields_bytes fs vs in
    let k : length xs ≡ f.width = length-bytes f.width (complement f.width v) in
    let both = length-append xs ys in
    let put = part_put s last at f.width (complement f.width v) (omega (arith, both, k)) m in
    let kept = length-written s at xs (omega (arith, both)) in
    q (omega (arith, ap length put, kept, both, k))
    ∙ ap (λ t. written t (at + f.width) ys) put
    ∙ ap (λ n. written (written s at xs) (at + n) ys) (sym k)
    ∙ written-more s at xs ys (omega (arith, both))

-- a signed one, as it is held
pub signed_put : (x : ℤ) (n : ℕ) (out : List ℕ) → mag x < 2 ^ hbits w64 → out ≡ bytes_of n (complement 4 (to_z w64 (of_z w64 x))) → out ≡ bytes_of n (complement 4 x)
signed_put x n out h p = rw (to_z-of_z {w = w64} {z = x} (record { sfits = h })) at p
