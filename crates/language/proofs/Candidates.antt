-- The only entry whose text a line can be has values that can be read again: each is the number of a word, or 0.
-- Assumes nothing.
use mathlib.Core.Path.{◌≡◌, refl}
use mathlib.Core.Bool.{Bool, true, false}
use mathlib.Core.List.{List}
use Prim.Native.Nat.{ℕ, zero, suc, ◌^◌, ◌<◌}
use native.Mathlib.Omega.{arith}
use lib.Dec.{eqb}
use lib.IntN.{ℤ}
use lib.ListN.{get_or}
use Rattle.paper.specs.File.{plain_at, entry_of}
use Rattle.numerals.specs.Numerals.{most_digits}
use Rattle.numerals.proofs.Words.{value_small}
use Rattle.wording.specs.Texts.{Readable}
use Rattle.language.specs.Lines.{first_word, other_words, kind_named, values_from, candidate}

-- an entry of small values
abbrev Small : List ℤ → Type 0
Small vs = (i : ℕ) → plain_at vs i < 10 ^ most_digits

readable_by : (t u v w : Bool) (k : ℕ) (vs : List ℤ) → eqb k 1 ≡ t → eqb k 2 ≡ u → eqb k 3 ≡ v → eqb k 4 ≡ w → Small vs → Readable (entry_of k vs)
unfolding entry_of
readable_by true u v w k vs a b c d h = rw a (h 0, (h 1, (h 2, (h 3, (h 4, (h 5, tt))))))
readable_by false true v w k vs a b c d h =
    rw (a, b)
    (h 0, (h 1, (h 2, (h 3, (h 4, (h 5, (h 6, (h 7, (h 8, (h 9, (h 10, (h 11, (h 12, (h 13, (h 14, tt)))))))))))))))
readable_by false false true w k vs a b c d h = rw (a, b, c) (h 0, (h 1, (h 2, tt)))
readable_by false false false true k vs a b c d h =
    rw (a, b, c, d) (h 0, (h 1, (h 2, (h 3, (h 4, (h 5, (h 6, (h 7, tt))))))))
readable_by false false false false k vs a b c d h = rw (a, b, c, d) (h 0, (h 1, tt))

entry_readable : (k : ℕ) (vs : List ℤ) → Small vs → Readable (entry_of k vs)
entry_readable k vs h = readable_by (eqb k 1) (eqb k 2) (eqb k 3) (eqb k 4) k vs refl refl refl refl h

values_small : (k : ℕ) (xs : List ℕ) → Small (values_from k xs)
unfolding values_from
values_small zero xs i = omega arith
values_small (suc k) xs zero = value_small (first_word xs)
values_small (suc k) xs (suc i) = values_small k (other_words xs) i

pub candidate_readable : (xs : List ℕ) → Readable (candidate xs)
unfolding candidate
candidate_readable xs = entry_readable (kind_named (get_or xs 0 0) (get_or xs 1 0)) (values_from 15 (other_words xs)) (values_small 15 (other_words xs))
