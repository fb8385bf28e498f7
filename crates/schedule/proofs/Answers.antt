-- What the call answers: by whether there is a weighing, and whether the buffer is too short for the schedule, which stands at the
-- beginning of what is copied. Assumes nothing.
use Rattle.std.proofs.Common.{◌≡◌, sym, false, true, not, List, ℕ, ◌≤◌, ◌<◌, length, lt-ltb, le-ltb}
use Rattle.std.specs.Prelude.{Result, Ok, Err}
use Rattle.std.proofs.lemmas.Bool.{not-true, not-false}
use Rattle.laws.specs.Written.{written, written_first}
use Rattle.paper.specs.declared.Entry.{Entry}
use Rattle.paper.specs.declared.Equipment.{Equipment}
use Rattle.paper.specs.declared.Refusal.{Refusal}
use Rattle.paper.specs.declared.Refusal.TheVariants as refusal
use Rattle.paper.specs.Numbers.{refusal_of}
use Rattle.paper.specs.Record.{balance_of, is_none}
use Rattle.paper.specs.Equipment.{fitted, equipment_of}
use Rattle.paper.specs.Refusals.{first_number}
use Rattle.paper.specs.Answers.{over, written_by}
use Rattle.schedule.specs.Schedules.{schedule, schedule_number, schedule_answer}

-- of a list without a weighing
pub unweighed : (es : List Entry) (s : List ℕ) → false ≡ not (is_none (balance_of es)) → ◌≡◌ {A = Result ℕ Refusal × List ℕ} (Err refusal.NoWeighing, s) (schedule_answer es s)
unfolding schedule_answer schedule_number written_by first_number refusal_of
unweighed es s w = rw (not-false (is_none (balance_of es)) (sym w))

-- of one with a weighing, by its equipment
module _ (es : List Entry) (items : List Equipment) (s : List ℕ) (w : true ≡ not (is_none (balance_of es))) (k : items ≡ equipment_of (fitted es)) where
  pub too_short : length s < length (schedule items) → ◌≡◌ {A = Result ℕ Refusal × List ℕ} (Err refusal.ShortBuffer, s) (schedule_answer es s)
  unfolding schedule_answer schedule_number written_by first_number refusal_of
  too_short h = rw (← k, not-true (is_none (balance_of es)) (sym w), lt-ltb (length s) (length (schedule items)) h)

  pub long_enough : (xs out : List ℕ) (n : ℕ) → xs ≡ schedule items → length (schedule items) ≤ length s → n ≡ length xs → out ≡ written s 0 xs → ◌≡◌ {A = Result ℕ Refusal × List ℕ} (Ok n, out) (schedule_answer es s)
  unfolding schedule_answer schedule_number written_by first_number over
  long_enough xs out n e h m f =
      rw (← k, not-true (is_none (balance_of es)) (sym w), le-ltb (length s) (length (schedule items)) h, m, f, e, written_first s (schedule items))
