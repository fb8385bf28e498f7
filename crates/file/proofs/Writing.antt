-- What is written in all. Assumes nothing.
use mathlib.Core.Path.{◌≡◌, sym, ap, ◌∙◌}
use mathlib.Core.List.{List}
use Prim.Native.Nat.{ℕ, ◌-◌, ◌≤◌}
use native.Mathlib.Omega.{arith}
use lib.ListN.{length}
use Rattle.laws.specs.Written.{written, written_first, written_follows}
use Rattle.paper.specs.declared.Entry.{Entry}
use Rattle.paper.specs.File.{file_bytes}
use Rattle.paper.specs.Answers.{over}
use Rattle.header.specs.Header.{header_of}
use Rattle.stored.specs.Found.{bytes_in}
use Rattle.header.proofs.Putting.{length_header}
use Rattle.stored.proofs.Parts.{file_parts, file_size}

all-put : (es : List Entry) (s : List ℕ) → length (file_bytes es) ≤ length s → written (written s 0 (header_of (length (file_bytes es) - 4) (length es))) 6 (bytes_in es) ≡ over (file_bytes es) s
unfolding over
all-put es s h =
    let n = length (file_bytes es) - 4 in
    written_follows s (header_of n (length es)) (bytes_in es) 6 (length_header n (length es)) (omega (arith, file_size es))
    ∙ ap (written s 0) (sym (file_parts es))
    ∙ written_first s (file_bytes es)

-- as the code has it: the length, the count and the entries of a record of that list
pub put_in_all : (es fs : List Entry) (s out last : List ℕ) (n count : ℕ) → fs ≡ es → n ≡ length (file_bytes es) → count ≡ length es → length (file_bytes es) ≤ length s → out ≡ written s 0 (header_of (n - 4) count) → last ≡ written out 6 (bytes_in fs) → last ≡ over (file_bytes es) s
put_in_all es fs s out last n count f e c h o l = rw (l, o, f, e, c) (all-put es s h)
