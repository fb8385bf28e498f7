-- Demand 3's conclusion, whole: what holds of every list of calls and a placard asked for after it. proofs/RecordCalls.antt
-- shows it of the calls on a record, proofs/LibraryCalls.antt of the library to link; the files of these names beside this one
-- have the lists of calls as they run.
--
-- It speaks of a journal (the numbers that its calls get, and its entries), of what the calls answered, and of the buffer
-- as lent and as left. No record is in it. The definitions that it rests on are those of crates/paper/specs:
--   Record    weighing_stands, sheet_stands
--             balance_of, sheet_of, seat_of, ends_of              G, M and n, the sheet and the seat in force, of a journal; the
--                                                                 two ends that the arm of a front load lies between
--   Rows      row_count, rear_of, water_of, row, is_step, keeps, breaks_at, every_arm, some_arm, in_range, is_blank
--   Placard   text_length, blank_count, text, line_in, ReadAs
--   Refusals  placard_too_long, placard_number
--   Numbers   number_in, refusal_of                         an answer's number, 0 where it is given, and a number's refusal
--   Answers   placard_answer, over                                over: bytes written into a buffer, those behind them stay
-- Assumes nothing.
use Rattle.std.specs.Prelude.{◌≡◌, true, false, not, ◌&&◌, List, ℕ, ◌≤◌, ◌<◌, eqb, ℤ, length, Result, Ok, Err, Some}
use Rattle.std.proofs.Common.{sym, ◌∙◌}
use Rattle.std.proofs.Math.Option.{some}
use Rattle.paper.specs.declared.Sheet.{Sheet}
use Rattle.paper.specs.declared.Seat.{Seat}
use Rattle.paper.specs.declared.Entry.{Entry}
use Rattle.paper.specs.declared.Placard.{Placard}
use Rattle.paper.specs.declared.Refusal.{Refusal}
use Rattle.paper.specs.Numbers.{refusal_of, number_in}
use Rattle.paper.specs.Record.{Balance, balance_of, sheet_of, seat_of, ends_of, weighing_stands, sheet_stands}
use Rattle.paper.specs.Rows.{Row, row_count, rear_of, water_of, row, is_step, keeps, breaks_at, every_arm, some_arm, in_range, is_blank}
use Rattle.paper.specs.Placard.{text, text_length, blank_count, line_in, ReadAs}
use Rattle.paper.specs.Refusals.{accepted, placard_too_long, placard_number}
use Rattle.paper.specs.Answers.{over, placard_answer}
use Rattle.planes.proofs.Rows.{range_occupied}
use Rattle.line.proofs.Legible.{legible}
use Rattle.claim.specs.Endings as endings
use Rattle.claim.specs.Printed as printed

module _ (es : List Entry) (answer : Result Placard Refusal) (left : List ℕ) where
  -- where the placard is given: what holds of the sheet in force, the ends that its front arm lies between, and the balance
  abbrev pub Given : (Sheet → Seat → Balance → Type 0) → Type 0
  Given P = (s : Sheet) (b : Balance) → sheet_of es ≡ some s → balance_of es ≡ some b → number_in answer ≡ 0 → P s (ends_of s (seat_of es)) b

  -- of each of its rows, with its rear load and water, and its line as left in the buffer
  abbrev pub EachLine : (Sheet → Seat → Balance → ℕ → ℕ → List ℕ → Type 0) → Type 0
  EachLine P = Given (λ s f b. (i : ℕ) → i < row_count s → P s f b (rear_of s i) (water_of s i) (line_in left i))

  -- of whatever is read off that line: a rear load, water and a row
  abbrev pub EachReading : (Sheet → Seat → Balance → ℕ → ℕ → ℕ → ℕ → Row → Type 0) → Type 0
  EachReading P = EachLine (λ s f b r w bytes. (rear water : ℕ) (x : Row) → ReadAs bytes rear water x → P s f b r w rear water x)

-- The demand, a field for each clause: of the numbers that the journal gives the calls and its entries after them, the numbers
-- that the calls answered, the buffer as lent, the placard call's answer, and the buffer as the call left it.
pub record Demand3 (numbers : List ℕ) (es : List Entry) (answers lent : List ℕ) (answer : Result Placard Refusal) (left : List ℕ) : Type 0 where
  -- each call of the list is accepted, or refused with its number, as the journal has it
  pub each_call : answers ≡ numbers
  -- the answer and the buffer's final bytes, refusals as well, are those worked out from the journal and the buffer as lent
  pub worked_out : (answer ≡ (placard_answer es lent).0) × (left ≡ (placard_answer es lent).1)
  -- in particular: the placard is given exactly when a weighing and a sheet stand and the buffer holds it
  pub given_exactly : eqb (number_in answer) 0 ≡ (weighing_stands es && sheet_stands es && not (placard_too_long (sheet_of es) (length lent)))
  -- else it is refused with the journal's number, says nothing else, and the buffer is as lent
  pub refused_else : eqb (number_in answer) 0 ≡ false → (answer ≡ Err (refusal_of (placard_number es (length lent)))) × (left ≡ lent)
  -- a given placard's bytes, rows and blank rows are those of the sheet in force, the seat's ends and the balance
  pub counts : Given es answer left (λ s f b. answer ≡ Ok (record { bytes = text_length s; rows = row_count s; blank = blank_count s f b }))
  -- the buffer as left, byte for byte: a line for each row, and what stood behind them
  pub buffer : Given es answer left (λ s f b. left ≡ over (text s f b) lent)
  -- its i-th 36 bytes are the line of the i-th row's loads and row, and can be read as them
  pub each_line : EachLine es answer left (λ s f b r w bytes. ReadAs bytes r w (row s f b r w))
  -- and in no other way: whatever is read off a line are the row's loads and the row
  pub only_reading : EachReading es answer left (λ s f b r w rear water x. (rear ≡ r) × (water ≡ w) × (x ≡ row s f b r w))
  -- no step in the range that is read breaks a limit with any part of the row's water aboard, at some arm between the ends
  pub none_breaks : EachReading es answer left (λ s f b r w rear water x. (p v : ℕ) → is_step s p ≡ true → in_range p x ≡ true → v ≤ w → some_arm f (λ (arm : ℤ). breaks_at s arm b r p v) ≡ false)
  -- it misses no step that keeps every limit with every part aboard, at every arm between the ends
  pub none_missed : EachReading es answer left (λ s f b r w rear water x. (p : ℕ) → (every_arm f (λ (arm : ℤ). keeps s arm b r w p) && not (in_range p x)) ≡ false)
  -- it is blank exactly when no front load keeps every limit at every such arm
  pub blank_exactly : EachReading es answer left (λ s f b r w rear water x. (is_blank x ≡ true → (p : ℕ) → every_arm f (λ (arm : ℤ). keeps s arm b r w p) ≡ false) × (((p : ℕ) → every_arm f (λ (arm : ℤ). keeps s arm b r w p) ≡ false) → is_blank x ≡ true))

-- ---- the proof: all of it follows from the answer and the buffer that the definitions work out

module _ (es : List Entry) (ok : accepted es ≡ true) (lent : List ℕ) (a : Result Placard Refusal) (left : List ℕ) (says : endings.Answered es lent a left) where
  line : EachLine es a left (λ s f b r w bytes. ReadAs bytes r w (row s f b r w))
  line s b e w z i h = printed.line_read es ok lent left s (ends_of s (seat_of es)) b e (says.whole s b e w z).1 i h

  read : EachReading es a left (λ s f b r w rear water x. (rear ≡ r) × (water ≡ w) × (x ≡ row s f b r w))
  read s b e w z i h rear water x l = legible l (line s b e w z i h)

pub demanded : (numbers : List ℕ) (es : List Entry) → accepted es ≡ true → (answers lent : List ℕ) (a : Result Placard Refusal) (left : List ℕ) → answers ≡ numbers → a ≡ (placard_answer es lent).0 → left ≡ (placard_answer es lent).1 → Demand3 numbers es answers lent a left
demanded numbers es ok answers lent a left n first second =
    let says = endings.says es lent a left first second in
    record {
      each_call = n;
      worked_out = (first, second);
      given_exactly = says.exactly;
      refused_else = says.else;
      counts = λ s b e w z. (says.whole s b e w z).0;
      buffer = λ s b e w z. (says.whole s b e w z).1;
      each_line = line es ok lent a left says;
      only_reading = read es ok lent a left says;
      none_breaks = λ s b e w z i h rear water x l. printed.none_breaks s (ends_of s (seat_of es)) b (rear_of s i) (water_of s i) x (read es ok lent a left says s b e w z i h rear water x l).2;
      none_missed = λ s b e w z i h rear water x l. printed.none_missed s (ends_of s (seat_of es)) b (rear_of s i) (water_of s i) x (read es ok lent a left says s b e w z i h rear water x l).2;
      blank_exactly = λ s b e w z i h rear water x l. printed.blank_exactly s (ends_of s (seat_of es)) b (rear_of s i) (water_of s i) x (read es ok lent a left says s b e w z i h rear water x l).2;
    }

-- ---- what follows for the engraver: no range that is read off a given placard begins at 0, whatever the sheet's least load

pub none_from_nought : {numbers : List ℕ} {es : List Entry} {answers lent : List ℕ} {a : Result Placard Refusal} {left : List ℕ} → Demand3 numbers es answers lent a left
    → EachReading es a left (λ s f b r w rear water x. (lo hi : ℕ) → x ≡ Some (lo, hi) → 1 ≤ lo)
none_from_nought {es = es} d s b e w z i h rear water x l lo hi k =
    range_occupied s (ends_of s (seat_of es)) b (rear_of s i) (water_of s i) lo hi (sym (d.only_reading s b e w z i h rear water x l).2 ∙ k)
