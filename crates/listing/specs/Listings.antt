-- The listing of a record: its entries as lines of a logbook, and behind each weighing and change a comment that says what it
-- comes to.
use Rattle.std.specs.Prelude.{cond, List, [], ◌∷◌, ◌++◌, ℕ, suc, ◌/◌, ◌%◌, ltb, eqb, ℤ, pos, negsuc, length, Result, Ok, Err}
use Rattle.paper.specs.declared.Entry.{Entry}
use Rattle.paper.specs.declared.Entry.TheVariants as entry
use Rattle.paper.specs.declared.CentreOfGravity.{CentreOfGravity}
use Rattle.paper.specs.declared.Refusal.{Refusal}
use Rattle.paper.specs.Placard.{feed, hyphen, point}
use Rattle.paper.specs.Answers.{centre_answer, written_by}
use Rattle.paper.specs.Refusals.{first_number, ◌when◌}
use Rattle.numerals.specs.Numerals.{decimal, numeral}
use Rattle.wording.specs.Texts.{entry_text}

-- "# total ", " moment " and " centre "
abbrev pub total_text : List ℕ
total_text = 35 ∷ 32 ∷ 116 ∷ 111 ∷ 116 ∷ 97 ∷ 108 ∷ 32 ∷ []

abbrev pub moment_text : List ℕ
moment_text = 32 ∷ 109 ∷ 111 ∷ 109 ∷ 101 ∷ 110 ∷ 116 ∷ 32 ∷ []

abbrev pub centre_text : List ℕ
centre_text = 32 ∷ 99 ∷ 101 ∷ 110 ∷ 116 ∷ 114 ∷ 101 ∷ 32 ∷ []

-- half grams in grams, with ".5" behind where there is a half
unfoldable pub halves : ℕ → List ℕ
halves n = decimal (n / 2) ++ cond (eqb (n % 2) 1) (point ∷ 53 ∷ []) []

-- the same with a sign: a hyphen in front of what is below 0
unfoldable pub signed_halves : ℤ → List ℕ
signed_halves (pos n) = halves n
signed_halves (negsuc n) = hyphen ∷ halves (suc n)

-- a comment's line: total, moment and centre of gravity
unfoldable pub comment : CentreOfGravity → List ℕ
comment c =
    total_text ++ halves c.total ++ moment_text ++ signed_halves c.moment ++ centre_text ++ numeral c.centre ++ feed ∷ []

-- what a list comes to, as a comment: none before a weighing, where no weighing and no change is accepted
abbrev pub comes_to : Result CentreOfGravity Refusal → List ℕ
comes_to (Ok c) = comment c
comes_to (Err f) = []

-- what follows an entry's line, where a list that ends with the entry comes to c
unfoldable pub remark : Result CentreOfGravity Refusal → Entry → List ℕ
remark c (entry.Weighing w) = comes_to c
remark c (entry.Sheet s) = []
remark c (entry.Change x) = comes_to c
remark c (entry.Paired x) = comes_to c
remark c (entry.Seat f) = []

-- the lines of such an entry
unfoldable pub lines_of : Result CentreOfGravity Refusal → Entry → List ℕ
lines_of c e = entry_text e ++ feed ∷ remark c e

-- the lines of entries behind a list
unfoldable pub listed_after : List Entry → List Entry → List ℕ
listed_after es [] = []
listed_after es (f ∷ fs) = lines_of (centre_answer (es ++ f ∷ [])) f ++ listed_after (es ++ f ∷ []) fs

unfoldable pub listing : List Entry → List ℕ
listing es = listed_after [] es

-- the answer, and the buffer as the call leaves it: 11 where the buffer is too short
unfoldable pub listed_answer : List Entry → List ℕ → Result ℕ Refusal × List ℕ
listed_answer es buffer = written_by (first_number (11 when ltb (length buffer) (length (listing es)) ∷ [])) (listing es) buffer
