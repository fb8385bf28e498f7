-- The logbook's language. A line is the text of an entry, or `undo`, or it is passed over; every other line is not understood.
-- `Means` says so; `says` works it out, and crates/language/proofs/Exactly.antt shows that the two are one.
use Rattle.std.specs.Prelude.{◌≡◌, Bool, true, false, cond, List, [], ◌∷◌, ℕ, zero, suc, eqb, ℤ, get_or, take, drop}
use Rattle.laws.specs.Bytes.{index_of}
use Rattle.laws.specs.Equal.{eq_list}
use Rattle.paper.specs.declared.Entry.{Entry}
use Rattle.paper.specs.Placard.{space}
use Rattle.paper.specs.File.{entry_of}
use Rattle.numerals.specs.Numerals.{value_of}
use Rattle.wording.specs.Texts.{entry_text, Readable}
use Rattle.language.specs.declared.Line.{Line}
use Rattle.language.specs.declared.Line.TheVariants as line

-- undo
abbrev pub undo_text : List ℕ
undo_text = 117 ∷ 110 ∷ 100 ∷ 111 ∷ []

-- the sign that a comment begins with
abbrev pub comment_sign : ℕ
comment_sign = 35

-- an empty line, or a comment
unfoldable pub passed_over : List ℕ → Bool
passed_over [] = true
passed_over (x ∷ xs) = eqb x comment_sign

-- the language: what a line means, by texts alone. `says` below is the one meaning that it has
abbrev pub Means : List ℕ → Line → Type 0
Means xs line.Passed = passed_over xs ≡ true
Means xs line.Undo = xs ≡ undo_text
Means xs (line.Entry e) = (xs ≡ entry_text e) × Readable e
Means xs line.NotUnderstood = (passed_over xs ≡ false) × (xs ≡ undo_text → ⊥) × ((e : Entry) → Readable e → xs ≡ entry_text e → ⊥)

-- ---- what a line says, worked out

-- the kind whose name begins with these two letters: w, sh, s before another letter, c, or else p
unfoldable pub kind_named : ℕ → ℕ → ℕ
kind_named x y = cond (eqb x 119) 1 (cond (eqb x 115) (cond (eqb y 104) 2 5) (cond (eqb x 99) 3 4))

-- what stands before the first space, and behind it
unfoldable pub first_word : List ℕ → List ℕ
first_word xs = take (index_of space xs) xs

unfoldable pub other_words : List ℕ → List ℕ
other_words xs = drop (suc (index_of space xs)) xs

-- the numbers of the first k words
unfoldable pub values_from : ℕ → List ℕ → List ℤ
values_from zero xs = []
values_from (suc k) xs = value_of (first_word xs) ∷ values_from k (other_words xs)

-- the only entry whose text a line can be
unfoldable pub candidate : List ℕ → Entry
candidate xs = entry_of (kind_named (get_or xs 0 0) (get_or xs 1 0)) (values_from 15 (other_words xs))

-- what a line says: the entry whose text it is
unfoldable pub says : List ℕ → Line
says xs =
    cond (passed_over xs) line.Passed
    (cond (eq_list eqb xs undo_text) line.Undo
    (cond (eq_list eqb xs (entry_text (candidate xs))) (line.Entry (candidate xs)) line.NotUnderstood))
