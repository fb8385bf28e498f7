-- A record lent as its file at the front of a buffer: what each call that changes it answers and leaves of the buffer. The numbers
-- are the paper's: 12 where the buffer holds no record, then the call's own, then 11 where the buffer is shorter than the file
-- afterwards. A refusal leaves every byte.
use Rattle.std.specs.Prelude.{cond, List, [], ℕ, eqb}
use Rattle.std.proofs.Math.Option.{Option, none, some}
use Rattle.paper.specs.declared.Entry.{Entry}
use Rattle.paper.specs.Numbers as numbers
use Rattle.paper.specs.Refusals.{writing_number}
use Rattle.paper.specs.Answers.{written_answer}
use Rattle.paper.specs.Journal.{Call, read, call_number, accepted_call, journal_by, numbers_by}
use Rattle.front.specs.Front.{held_in}

-- the file of a list at the front of a buffer, 11 where the buffer is too short for it: the number, and the buffer
unfoldable pub lent_file : List Entry → List ℕ → ℕ × List ℕ
lent_file es buffer = (numbers.number_in (written_answer es buffer).0, (written_answer es buffer).1)

-- a call where o is the list that the buffer holds
unfoldable pub lent_by : Option (List Entry) → Call → List ℕ → ℕ × List ℕ
lent_by none x buffer = (12, buffer)
lent_by (some es) x buffer =
    cond (eqb (call_number es x) 0) (lent_file (accepted_call es x) buffer) (call_number es x, buffer)

-- a call that adds an entry, or taking back
unfoldable pub lent_call : Call → List ℕ → ℕ × List ℕ
lent_call x buffer = lent_by (held_in buffer) x buffer

-- reading back asks nothing of what stands, so the buffer may hold anything
unfoldable pub lent_read : List ℕ → List ℕ → ℕ × List ℕ
lent_read xs buffer = lent_by (some []) (read xs) buffer

-- ---- a list of calls on a buffer of n bytes

-- the number of a call on a list: the journal's, then 11 where the buffer is shorter than the file afterwards
unfoldable pub number_in : ℕ → List Entry → Call → ℕ
number_in n es x = cond (eqb (call_number es x) 0) (writing_number (accepted_call es x) n) (call_number es x)

-- from a fresh record on, the list that stands after some calls, and the number of each
unfoldable pub journal_in : ℕ → List Call → List Entry
journal_in n xs = journal_by (number_in n) [] xs

unfoldable pub numbers_in : ℕ → List Call → List ℕ
numbers_in n xs = numbers_by (number_in n) [] xs
