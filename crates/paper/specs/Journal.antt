-- "The journal": a list of entries kept from the calls' arguments alone, and the number that each call gets by it.
use Rattle.std.specs.Prelude.{cond, List, [], ◌∷◌, ◌++◌, ℕ, eqb}
use Rattle.std.proofs.Math.Option.{Option, none, some}
use Rattle.paper.specs.declared.Weighing.{Weighing}
use Rattle.paper.specs.declared.Paired.{Paired}
use Rattle.paper.specs.declared.Sheet.{Sheet}
use Rattle.paper.specs.declared.Change.{Change}
use Rattle.paper.specs.declared.Seat.{Seat}
use Rattle.paper.specs.declared.Entry.{Entry}
use Rattle.paper.specs.declared.Entry.TheVariants as entry
use Rattle.paper.specs.Record.{alike, paired}
use Rattle.paper.specs.Indicator.{SentWeighing, paired_of}
use Rattle.paper.specs.Refusals.{weighing_number, indicator_number, sheet_number, change_number, seat_number, undo_number, reading_number, file_of}

-- a call that can change the record, with its arguments: for a weighing by an indicator the bytes of four readings with their cells,
-- for reading back the bytes of a file
pub data Call : Type 0 where
  weigh : Weighing → Call
  pair : Paired → Call
  indicate : SentWeighing → Call
  install : Sheet → Call
  change : Change → Call
  seat : Seat → Call
  undo : Call
  read : List ℕ → Call

-- the call that adds an entry
unfoldable pub call_of : Entry → Call
call_of (entry.Weighing w) = weigh w
call_of (entry.Sheet s) = install s
call_of (entry.Change x) = change x
call_of (entry.Paired x) = pair x
call_of (entry.Seat f) = seat f

-- the number that a call gets on a journal, 0 where it is accepted
unfoldable pub call_number : List Entry → Call → ℕ
call_number es (weigh w) = weighing_number es (alike w)
call_number es (pair x) = weighing_number es (paired x)
call_number es (indicate x) = indicator_number es x
call_number es (install s) = sheet_number es s
call_number es (change x) = change_number es x
call_number es (seat f) = seat_number es f
call_number es undo = undo_number es
call_number es (read xs) = reading_number xs

-- a list without its last entry
unfoldable pub without_last : {A : Type 0} → List A → List A
without_last [] = []
without_last (x ∷ []) = []
without_last (x ∷ y ∷ xs) = x ∷ without_last (y ∷ xs)

abbrev pub entries_or : List Entry → Option (List Entry) → List Entry
entries_or es none = es
entries_or es (some fs) = fs

-- the journal after an accepted call: the entry at its end, or without its last, or the file's entries in its place
unfoldable pub accepted_call : List Entry → Call → List Entry
accepted_call es (weigh w) = es ++ entry.Weighing w ∷ []
accepted_call es (pair x) = es ++ entry.Paired x ∷ []
accepted_call es (indicate x) = es ++ entry.Paired (paired_of x) ∷ []
accepted_call es (install s) = es ++ entry.Sheet s ∷ []
accepted_call es (change x) = es ++ entry.Change x ∷ []
accepted_call es (seat f) = es ++ entry.Seat f ∷ []
accepted_call es undo = without_last es
accepted_call es (read xs) = entries_or es (file_of xs)

-- ---- a list of calls, where `number` is the number that a call gets on a list

-- the list after a call: a call that gets a number leaves it as it was
unfoldable pub after_by : (List Entry → Call → ℕ) → List Entry → Call → List Entry
after_by number es x = cond (eqb (number es x) 0) (accepted_call es x) es

-- the list after some calls, the first one first, that begin at a list
unfoldable pub journal_by : (List Entry → Call → ℕ) → List Entry → List Call → List Entry
journal_by number es [] = es
journal_by number es (x ∷ xs) = journal_by number (after_by number es x) xs

-- the number of each of them
unfoldable pub numbers_by : (List Entry → Call → ℕ) → List Entry → List Call → List ℕ
numbers_by number es [] = []
numbers_by number es (x ∷ xs) = number es x ∷ numbers_by number (after_by number es x) xs

-- ---- the journal: it begins empty, and its numbers are the table's

abbrev pub after_call : List Entry → Call → List Entry
after_call es x = after_by call_number es x

unfoldable pub journal : List Call → List Entry
journal xs = journal_by call_number [] xs

unfoldable pub numbers : List Call → List ℕ
numbers xs = numbers_by call_number [] xs
