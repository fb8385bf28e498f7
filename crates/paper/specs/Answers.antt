-- What the calls that change no record answer, refusals included, and what they leave of a buffer as lent.
use Rattle.std.specs.Prelude.{cond, List, ◌++◌, ℕ, ℤ, eqb, nat_abs, length, drop, Result, Ok, Err}
use Rattle.std.proofs.Math.Option.{Option, none, some}
use Rattle.paper.specs.declared.Sheet.{Sheet}
use Rattle.paper.specs.declared.Seat.{Seat}
use Rattle.paper.specs.declared.Entry.{Entry}
use Rattle.paper.specs.declared.CentreOfGravity.{CentreOfGravity}
use Rattle.paper.specs.declared.Equipment.{Equipment}
use Rattle.paper.specs.declared.Placard.{Placard}
use Rattle.paper.specs.declared.Refusal.{Refusal}
use Rattle.paper.specs.Numbers.{refusal_of}
use Rattle.paper.specs.Record.{Balance, balance_of, sheet_of, seat_of, ends_of, centre_of}
use Rattle.paper.specs.Equipment.{fitted, equipment_of, arm_column, weight_column, nonlifting_column}
use Rattle.paper.specs.Rows.{row_count}
use Rattle.paper.specs.Placard.{text, text_length, blank_count}
use Rattle.paper.specs.File.{file_bytes}
use Rattle.paper.specs.Refusals.{centre_number, equipment_number, placard_number, writing_number}

-- elements written into a buffer or a column: those behind them stay
unfoldable pub over : {A : Type 0} → List A → List A → List A
over xs buffer = xs ++ drop (length xs) buffer

-- ---- centre of gravity

-- total and moment, in half grams, and empty centre of gravity (G is 2 or more in every accepted list, so its size is G)
unfoldable pub centre_given : Balance → CentreOfGravity
centre_given b = record { total = nat_abs b.total; moment = b.moment; centre = centre_of b }

abbrev pub centre_by : ℕ → Option Balance → Result CentreOfGravity Refusal
centre_by n none = Err (refusal_of n)
centre_by n (some b) = Ok (centre_given b)

unfoldable pub centre_answer : List Entry → Result CentreOfGravity Refusal
centre_answer es = centre_by (centre_number es) (balance_of es)

-- ---- equipment by station

-- the count of arms, and the three columns as they are filled
unfoldable pub equipment_given : List Equipment → List ℤ → List ℤ → List ℤ → Result ℕ Refusal × List ℤ × List ℤ × List ℤ
equipment_given es arms weights nonlifting =
    (Ok (length es), over (arm_column es) arms, over (weight_column es) weights, over (nonlifting_column es) nonlifting)

-- the answer, and the columns as the call leaves them
unfoldable pub equipment_answer : List Entry → List ℤ → List ℤ → List ℤ → Result ℕ Refusal × List ℤ × List ℤ × List ℤ
equipment_answer es arms weights nonlifting =
    let n = equipment_number es (length arms) (length weights) (length nonlifting) in
    cond (eqb n 0) (equipment_given (equipment_of (fitted es)) arms weights nonlifting)
    (Err (refusal_of n), arms, weights, nonlifting)

-- ---- placard

unfoldable pub placard_given : Sheet → Seat → Balance → Placard
placard_given s f b = record { bytes = text_length s; rows = row_count s; blank = blank_count s f b }

unfoldable pub placard_refused : ℕ → List ℕ → Result Placard Refusal × List ℕ
placard_refused n buffer = (Err (refusal_of n), buffer)

abbrev pub placard_by : ℕ → Option Sheet → Option Seat → Option Balance → List ℕ → Result Placard Refusal × List ℕ
placard_by n none f o buffer = placard_refused n buffer
placard_by n (some s) f none buffer = placard_refused n buffer
placard_by n (some s) f (some b) buffer =
    cond (eqb n 0) (Ok (placard_given s (ends_of s f) b), over (text s (ends_of s f) b) buffer) (placard_refused n buffer)

-- the answer, and the buffer as the call leaves it
unfoldable pub placard_answer : List Entry → List ℕ → Result Placard Refusal × List ℕ
placard_answer es buffer = placard_by (placard_number es (length buffer)) (sheet_of es) (seat_of es) (balance_of es) buffer

-- ---- writing

-- how many bytes were written
unfoldable pub written_by : ℕ → List ℕ → List ℕ → Result ℕ Refusal × List ℕ
written_by n xs buffer = cond (eqb n 0) (Ok (length xs), over xs buffer) (Err (refusal_of n), buffer)

-- the answer, and the buffer as the call leaves it
unfoldable pub written_answer : List Entry → List ℕ → Result ℕ Refusal × List ℕ
written_answer es buffer = written_by (writing_number es (length buffer)) (file_bytes es) buffer
