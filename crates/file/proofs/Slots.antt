-- The bytes of the first entries of a list: one entry more, and how long they are. Assumes nothing.
use mathlib.Core.Path.{◌≡◌, refl}
use mathlib.Core.List.{List, [], ◌∷◌, ◌++◌, map}
use Prim.Native.Nat.{ℕ, ◌+◌, ◌≤◌, ◌<◌}
use native.Mathlib.Omega.{arith}
use lib.ListN.{length, get_or, take, length-append}
use Rattle.std.specs.List.{sum_by}
use Rattle.std.proofs.lemmas.List.{take_more}
use Rattle.std.proofs.lemmas.List.Sums.{sum_by-cons}
use Rattle.laws.specs.Lists.{map-append}
use Rattle.laws.specs.Written.{written, written-more}
use Rattle.paper.specs.declared.Entry.{Entry}
use Rattle.paper.specs.File.{entry_bytes}
use Rattle.paper.specs.Rows.{joined}
use Rattle.paper.proofs.Lists.{joined-last, joined-part}
use Rattle.format.specs.Entries.{entries_length}
use Rattle.stored.specs.Found.{bytes_in}

-- of the first i
abbrev pub bytes_to : List Entry → ℕ → List ℕ
bytes_to es i = bytes_in (take i es)

-- the first i are among the first c
pub bytes-part : (es : List Entry) (i c : ℕ) → i ≤ c → length (bytes_to es i) ≤ length (bytes_to es c)
bytes-part es i c h = joined-part entry_bytes es i c h

module _ (es : List Entry) (i : ℕ) (d : Entry) where
  bytes-more : i < length es → bytes_to es (i + 1) ≡ bytes_to es i ++ entry_bytes (get_or es i d)
  bytes-more h =
      let fs = take i es in
      let e = get_or es i d in
      rw (take_more es i d h, map-append entry_bytes fs (e ∷ [])) (joined-last (map entry_bytes fs) (entry_bytes e))

  length_more : i < length es → length (bytes_to es (i + 1)) ≡ length (bytes_to es i) + length (entry_bytes (get_or es i d))
  length_more h = rw (bytes-more h) (length-append (bytes_to es i) (entry_bytes (get_or es i d)))

  -- with the header, and one entry more
  pub counted : (n k : ℕ) → i < length es → n ≡ 6 + length (bytes_to es i) → k ≡ length (entry_bytes (get_or es i d)) → n + k ≡ 6 + length (bytes_to es (i + 1))
  counted n k h e f = omega (arith, length_more h)

  -- an entry behind the first i is within what the first c take
  pub within : (c n m : ℕ) → i < c → c ≤ length es → n ≡ 6 + length (bytes_to es i) → 6 + length (bytes_to es c) ≤ m → n + length (entry_bytes (get_or es i d)) ≤ m
  within c n m h k e f = omega (arith, length_more (omega arith), bytes-part es (i + 1) c (omega arith))

-- one entry more, written behind the first i
pub put-more : (s : List ℕ) (es : List Entry) (i : ℕ) (d : Entry) (out last : List ℕ) (at : ℕ) → i < length es → 6 + length (bytes_to es i) ≤ length s → at ≡ 6 + length (bytes_to es i) → out ≡ written s 6 (bytes_to es i) → last ≡ written out at (entry_bytes (get_or es i d)) → last ≡ written s 6 (bytes_to es (i + 1))
put-more s es i d out last at h k a o l =
    rw (l, o, a, bytes-more es i d h) (written-more s 6 (bytes_to es i) (entry_bytes (get_or es i d)) k)

-- ---- how long they are in all

-- as they are added up
pub summed : (es : List Entry) → sum_by (λ e. length (entry_bytes e)) es ≡ length (bytes_in es)
unfolding joined
summed [] = refl
summed (e ∷ es) =
    omega (arith, sum_by-cons (λ e. length (entry_bytes e)) e es, summed es, length-append (entry_bytes e) (bytes_in es))

pub summed_most : (es : List Entry) → length es ≤ 64 → sum_by (λ e. length (entry_bytes e)) es ≤ 3904
summed_most es h = omega (arith, summed es, entries_length es)
