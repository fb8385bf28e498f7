-- The logbook: a text whose lines, in turn, are calls on a fresh record.
use Rattle.std.specs.Prelude.{cond, List, [], ◌∷◌, ℕ, suc, eqb, Result, Ok, Err}
use Rattle.laws.specs.Splits.{split}
use Rattle.paper.specs.declared.Entry.{Entry}
use Rattle.paper.specs.Numbers.{refusal_of}
use Rattle.paper.specs.Placard.{feed}
use Rattle.paper.specs.Journal.{Call, undo, call_of, call_number, accepted_call}
use Rattle.record.specs.declared.Record.{Record}
use Rattle.record.specs.Held.{record_of}
use Rattle.language.specs.declared.Line.{Line}
use Rattle.language.specs.declared.Line.TheVariants as line
use Rattle.language.specs.Lines.{says}
use Rattle.book.specs.declared.Failure.{Failure}
use Rattle.book.specs.declared.Failure.TheVariants as failure

-- what lines come to: the list that their calls give, or the number of the first line that is refused, with its number of
-- refusal, or that is not understood
pub data Outcome : Type 0 where
  stands : List Entry → Outcome
  refused : ℕ → ℕ → Outcome
  not_understood : ℕ → Outcome

-- a call that the i-th line makes
unfoldable pub called : ℕ → List Entry → Call → Outcome
called i es x = cond (eqb (call_number es x) 0) (stands (accepted_call es x)) (refused i (call_number es x))

-- the i-th line, by what it says
unfoldable pub after_line : ℕ → List Entry → Line → Outcome
after_line i es line.Passed = stands es
after_line i es line.Undo = called i es undo
after_line i es (line.Entry e) = called i es (call_of e)
after_line i es line.NotUnderstood = not_understood i

-- lines in turn behind the first i; the first that fails ends them
unfoldable pub after_lines : ℕ → Outcome → List (List ℕ) → Outcome
after_lines i o [] = o
after_lines i (stands es) (l ∷ ls) = after_lines (suc i) (after_line (suc i) es (says l)) ls
after_lines i (refused j n) (l ∷ ls) = refused j n
after_lines i (not_understood j) (l ∷ ls) = not_understood j

-- a text, from a fresh record on
unfoldable pub book_of : List ℕ → Outcome
book_of xs = after_lines 0 (stands []) (split feed xs)

-- ---- as the code holds it: the record, or why there is none

abbrev pub reading_of : Outcome → Result Record Failure
reading_of (stands es) = Ok (record_of es)
reading_of (refused i n) = Err (failure.Refused i (refusal_of n))
reading_of (not_understood i) = Err (failure.NotUnderstood i)
