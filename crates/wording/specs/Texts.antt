-- The text of an entry: a line of the logbook.
use Rattle.std.specs.Prelude.{cond, List, [], ◌∷◌, ◌++◌, map, ℕ, ◌^◌, ◌<◌, eqb, ℤ, nat_abs}
use Rattle.laws.specs.Lists.{Each}
use Rattle.paper.specs.declared.Entry.{Entry}
use Rattle.paper.specs.Rows.{joined}
use Rattle.paper.specs.Placard.{space}
use Rattle.paper.specs.File.{kind_of, values_of}
use Rattle.numerals.specs.Numerals.{numeral, most_digits}

-- the name of a kind of entry: weighing, sheet, change, paired, seat
unfoldable pub name_of : ℕ → List ℕ
name_of k =
    cond (eqb k 1) (119 ∷ 101 ∷ 105 ∷ 103 ∷ 104 ∷ 105 ∷ 110 ∷ 103 ∷ [])
    (cond (eqb k 2) (115 ∷ 104 ∷ 101 ∷ 101 ∷ 116 ∷ [])
    (cond (eqb k 3) (99 ∷ 104 ∷ 97 ∷ 110 ∷ 103 ∷ 101 ∷ [])
    (cond (eqb k 4) (112 ∷ 97 ∷ 105 ∷ 114 ∷ 101 ∷ 100 ∷ []) (115 ∷ 101 ∷ 97 ∷ 116 ∷ []))))

-- a value behind a space
abbrev pub spaced : ℤ → List ℕ
spaced v = space ∷ numeral v

-- values one behind the other
abbrev pub values_text : List ℤ → List ℕ
values_text vs = joined (map spaced vs)

-- the text: the kind's name, and the values in the order of the file
unfoldable pub entry_text : Entry → List ℕ
entry_text e = name_of (kind_of e) ++ values_text (values_of e)

-- each value has at most eighteen digits, so that it can be read
abbrev pub Readable : Entry → Type 0
Readable e = Each (λ (v : ℤ). nat_abs v < 10 ^ most_digits) (values_of e)
