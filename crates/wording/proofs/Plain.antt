-- How long an entry's text is at most, and that no line feed is in it: the name's bytes are known, and each value is a
-- space and a numeral. Assumes nothing.
use mathlib.Core.List.{List, [], ◌∷◌, map}
use Prim.Native.Nat.{ℕ, ◌+◌, ◌*◌, ◌≤◌, ◌<◌}
use native.Mathlib.Omega.{arith}
use lib.IntN.{ℤ}
use lib.ListN.{length, length-append}
use Rattle.laws.specs.Lists.{Each, each_more, each_append}
use Rattle.paper.specs.declared.Entry.{Entry}
use Rattle.paper.specs.declared.Entry.TheVariants as entry
use Rattle.paper.specs.File.{kind_of, values_of}
use Rattle.paper.specs.Rows.{joined}
use Rattle.numerals.specs.Numerals.{numeral}
use Rattle.numerals.proofs.Words.{numeral_most, numeral_above}
use Rattle.wording.specs.Texts.{name_of, spaced, entry_text}

-- ---- how long it is

-- each value takes at most 22 bytes, its space among them
values_most : (vs : List ℤ) → length (joined (map spaced vs)) ≤ 22 * length vs
unfolding joined
values_most [] = omega arith
values_most (v ∷ vs) = omega (arith, length-append (spaced v) (joined (map spaced vs)), numeral_most v, values_most vs)

-- with the name
kind_most : (e : Entry) → length (name_of (kind_of e)) + 22 * length (values_of e) ≤ 338
unfolding name_of
kind_most (entry.Weighing w) = omega arith
kind_most (entry.Sheet s) = omega arith
kind_most (entry.Change x) = omega arith
kind_most (entry.Paired x) = omega arith
kind_most (entry.Seat f) = omega arith

pub text_most : (e : Entry) → length (entry_text e) ≤ 338
unfolding entry_text
text_most e =
    omega (arith, length-append (name_of (kind_of e)) (joined (map spaced (values_of e))), values_most (values_of e), kind_most e)

-- ---- no line feed is in it

-- a byte that is no line feed, nor below one
abbrev Above : ℕ → Type 0
Above x = 10 < x

name_above : (e : Entry) → Each Above (name_of (kind_of e))
unfolding name_of
name_above (entry.Weighing w) = omega arith
name_above (entry.Sheet s) = omega arith
name_above (entry.Change x) = omega arith
name_above (entry.Paired x) = omega arith
name_above (entry.Seat f) = omega arith

values_above : (vs : List ℤ) → Each Above (joined (map spaced vs))
unfolding joined
values_above [] = tt
values_above (v ∷ vs) =
    each_append Above (spaced v) (joined (map spaced vs))
    (omega arith, each_more (λ (x : ℕ). 44 < x) Above (λ x h. omega arith) (numeral v) (numeral_above v))
    (values_above vs)

pub text_above : (e : Entry) → Each (λ (x : ℕ). 10 < x) (entry_text e)
unfolding entry_text
text_above e =
    each_append Above (name_of (kind_of e)) (joined (map spaced (values_of e))) (name_above e) (values_above (values_of e))
