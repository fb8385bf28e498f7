-- The numbers of an answer in a lent buffer: three of eight bytes each, where the call has no number of refusal and the buffer
-- is long enough, else no byte of it changes. And columns of numbers with their count.
use Rattle.std.specs.Prelude.{true, cond, List, [], ◌∷◌, ℕ, ltb, ℤ, pos, length, Result, Ok, Err}
use Rattle.std.proofs.Math.Option.{Option}
use Rattle.paper.specs.declared.Entry.{Entry}
use Rattle.paper.specs.declared.CentreOfGravity.{CentreOfGravity}
use Rattle.paper.specs.declared.Placard.{Placard}
use Rattle.paper.specs.declared.Refusal.{Refusal}
use Rattle.paper.specs.Numbers.{number_of, number_in}
use Rattle.paper.specs.File.{Field, fields_bytes}
use Rattle.paper.specs.Answers.{over}
use Rattle.front.specs.Front.{equipment_for, placard_for}

-- a number of an answer: eight bytes in two's complement, the highest first, as the file has its four
abbrev pub long : Field
long = record { width = 8; signed = true }

unfoldable pub answer_bytes : ℤ → ℤ → ℤ → List ℕ
answer_bytes x y z = fields_bytes (long ∷ long ∷ long ∷ []) (x ∷ y ∷ z ∷ [])

abbrev pub answer_length : ℕ
answer_length = 24

-- total, moment and centre, into a buffer: the call's number, else 11 where the buffer is too short
unfoldable pub centre_into : Result CentreOfGravity Refusal → List ℕ → ℕ × List ℕ
centre_into (Ok c) answer =
    cond (ltb (length answer) answer_length) (11, answer) (0, over (answer_bytes (pos c.total) c.moment c.centre) answer)
centre_into (Err r) answer = (number_of r, answer)

-- the count of arms of equipment that is given, else what was there
abbrev pub count_or : Result ℕ Refusal → ℕ → ℕ
count_or (Ok n) count = n
count_or (Err r) count = count

-- equipment by station into three columns, and the count of arms: the number, and all four as they are left
unfoldable pub equipment_into : Option (List Entry) → List ℤ → List ℤ → List ℤ → ℕ → ℕ × List ℤ × List ℤ × List ℤ × ℕ
equipment_into o arms weights nonlifting count =
    let a = equipment_for o arms weights nonlifting in
    (number_in a.0, a.1, a.2, a.3, count_or a.0 count)

-- bytes, rows and blank rows of a placard that is given, else nothing
unfoldable pub counts_over : Result Placard Refusal → List ℕ → List ℕ
counts_over (Ok a) answer = over (answer_bytes (pos a.bytes) (pos a.rows) (pos a.blank)) answer
counts_over (Err r) answer = answer

-- a placard and its counts, into two buffers: the number, and both as they are left. Where the counts' buffer is too short
-- the call gets the number that it has with no byte for the placard: 12, 7, 8, else 11
unfoldable pub placard_into : Option (List Entry) → List ℕ → List ℕ → ℕ × List ℕ × List ℕ
placard_into o out answer =
    cond (ltb (length answer) answer_length) (number_in (placard_for o []).0, out, answer)
    (number_in (placard_for o out).0, (placard_for o out).1, counts_over (placard_for o out).0 answer)
