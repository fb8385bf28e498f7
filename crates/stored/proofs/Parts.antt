-- The parts of a file: its header, the entries behind it, how long they are, and what writing them answers. Assumes nothing.
use mathlib.Core.Path.{◌≡◌, refl, sym, ap, ◌∙◌}
use mathlib.Core.List.{List, [], ◌∷◌, ◌++◌, map, append_assoc}
use Prim.Native.Nat.{ℕ, ◌+◌, ◌-◌, ◌≤◌, ◌<◌}
use native.Mathlib.Omega.{arith}
use lib.ListN.{length, drop, length-append}
use borrow.Author.Tests.{lt-ltb, le-ltb}
use Rattle.std.specs.Prelude.{Ok, Err}
use Rattle.laws.specs.Lists.{map-append}
use Rattle.paper.specs.declared.Entry.{Entry}
use Rattle.paper.specs.declared.Refusal.TheVariants as refusal
use Rattle.paper.specs.Numbers.{refusal_of}
use Rattle.paper.specs.Rows.{joined}
use Rattle.paper.specs.File.{bytes_of, entry_bytes, body_as, file_as, version, file_bytes}
use Rattle.paper.specs.Refusals.{first_number, writing_number}
use Rattle.paper.specs.Answers.{over, written_by, written_answer}
use Rattle.paper.proofs.Lists.{joined-last}
use Rattle.format.specs.Numbers.{length-bytes}
use Rattle.header.specs.Header.{header_of}
use Rattle.header.proofs.Putting.{length_header}
use Rattle.stored.specs.Found.{bytes_in}

-- a file is its header and its entries
pub file_parts : (es : List Entry) → file_bytes es ≡ header_of (length (file_bytes es) - 4) (length es) ++ bytes_in es
unfolding file_as body_as
file_parts es =
    let body = body_as version es in
    let size : length (file_bytes es) - 4 ≡ length body = omega (arith, length-append (bytes_of 4 (length body)) body, length-bytes 4 (length body)) in
    rw size (sym (append_assoc (bytes_of 4 (length body)) (version ∷ bytes_of 1 (length es)) (bytes_in es)))

pub file_size : (es : List Entry) → length (file_bytes es) ≡ 6 + length (bytes_in es)
file_size es =
    let n = length (file_bytes es) - 4 in
    ap length (file_parts es) ∙ length-append (header_of n (length es)) (bytes_in es) ∙ ap (λ (k : ℕ). k + length (bytes_in es)) (length_header n (length es))

-- in every version the entries begin at the seventh byte
pub entries_behind : (v : ℕ) (es : List Entry) (r : List ℕ) → drop 6 (file_as v es ++ r) ≡ bytes_in es ++ r
unfolding file_as body_as bytes_of
entries_behind v es r = refl

-- with one entry more
pub length_in : (es : List Entry) (e : Entry) → length (bytes_in (es ++ e ∷ [])) ≡ length (bytes_in es) + length (entry_bytes e)
length_in es e =
    ap length (ap joined (map-append entry_bytes es (e ∷ [])) ∙ joined-last (map entry_bytes es) (entry_bytes e))
    ∙ length-append (bytes_in es) (entry_bytes e)

-- ---- what writing answers

pub too_short : (es : List Entry) (s : List ℕ) → length s < length (file_bytes es) → written_answer es s ≡ (Err refusal.ShortBuffer, s)
unfolding written_answer written_by writing_number first_number refusal_of
too_short es s h = rw (lt-ltb (length s) (length (file_bytes es)) h)

pub long_enough : (es : List Entry) (s : List ℕ) → length (file_bytes es) ≤ length s → written_answer es s ≡ (Ok (length (file_bytes es)), over (file_bytes es) s)
unfolding written_answer written_by writing_number first_number
long_enough es s h = rw (le-ltb (length s) (length (file_bytes es)) h)
