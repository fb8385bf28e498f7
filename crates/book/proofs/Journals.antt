-- A logbook that is read whole gives the journal of the calls that its lines say, and each of them gets no number: by recursion
-- on the lines, and for each by what it says and by whether its call is refused. Assumes nothing.
use mathlib.Core.Path.{◌≡◌, refl, sym, ap, ◌∙◌}
use mathlib.Core.Bool.{Bool, true, false, cond, true≢false}
use mathlib.Core.List.{List, [], ◌∷◌}
use Prim.Native.Nat.{ℕ, suc}
use Rattle.std.specs.Prelude.{Result, Ok}
use lib.Dec.{eqb}
use borrow.Author.Tests.{eqb-true}
use Rattle.laws.specs.Splits.{split}
use Rattle.laws.specs.Lists.{Each}
use Rattle.paper.specs.declared.Entry.{Entry}
use Rattle.paper.specs.Placard.{feed}
use Rattle.paper.specs.Journal.{Call, undo, call_number, accepted_call, after_by, journal_by, numbers_by, journal, numbers, call_of}
use Rattle.language.specs.declared.Line.{Line}
use Rattle.language.specs.declared.Line.TheVariants as line
use Rattle.language.specs.Lines.{says}
use Rattle.book.proofs.Turns.{refused_stays, not_understood_stays}
use Rattle.record.specs.Held.{record_of}
use Rattle.record.specs.declared.Record.{Record}
use Rattle.book.specs.declared.Failure.{Failure}
use Rattle.book.specs.Books.{Outcome, stands, refused, not_understood, called, after_line, after_lines, book_of, reading_of}
use Rattle.book.proofs.read.Reads as read

-- the call that a line makes, in front of others
unfoldable pub call_of_line : Line → List Call → List Call
call_of_line line.Passed xs = xs
call_of_line line.Undo xs = undo ∷ xs
call_of_line (line.Entry e) xs = call_of e ∷ xs
call_of_line line.NotUnderstood xs = xs

-- the calls of lines
unfoldable pub calls_of : List (List ℕ) → List Call
calls_of [] = []
calls_of (l ∷ ls) = call_of_line (says l) (calls_of ls)

-- calls behind a list come to a list, and each gets no number
abbrev Gives : List Entry → List Entry → List Call → Type 0
Gives gs es xs = (journal_by call_number gs xs ≡ es) × Each (λ (n : ℕ). n ≡ 0) (numbers_by call_number gs xs)

-- ---- one line

module _ (i : ℕ) (gs es : List Entry) (ls : List (List ℕ)) (xs : List Call) (more : (hs : List Entry) → after_lines i (stands hs) ls ≡ stands es → Gives hs es xs) where
  -- by whether its call is accepted
  call_by : (t : Bool) (x : Call) → eqb (call_number gs x) 0 ≡ t → after_lines i (cond t (stands (accepted_call gs x)) (refused i (call_number gs x))) ls ≡ stands es → Gives (cond t (accepted_call gs x) gs) es xs × (call_number gs x ≡ 0)
  call_by true x e h = (more (accepted_call gs x) h, eqb-true (call_number gs x) 0 e)
  call_by false x e h =
      let no : refused i (call_number gs x) ≡ stands es = refused_stays i i (call_number gs x) ls ∙ h in
      absurd (true≢false cc)

  call_gives : (x : Call) → after_lines i (called i gs x) ls ≡ stands es → Gives gs es (x ∷ xs)
  unfolding called after_by journal_by numbers_by
  call_gives x h = let r = call_by (eqb (call_number gs x) 0) x refl h in (r.0.0, (r.1, r.0.1))

  line_gives : (t : Line) → after_lines i (after_line i gs t) ls ≡ stands es → Gives gs es (call_of_line t xs)
  unfolding after_line call_of_line
  line_gives line.Passed h = more gs h
  line_gives line.Undo h = call_gives undo h
  line_gives (line.Entry e) h = call_gives (call_of e) h
  line_gives line.NotUnderstood h =
      let no : not_understood i ≡ stands es = not_understood_stays i i ls ∙ h in
      absurd (true≢false cc)

-- ---- the theorem

lines_give : (i : ℕ) (gs es : List Entry) (ls : List (List ℕ)) → after_lines i (stands gs) ls ≡ stands es → Gives gs es (calls_of ls)
unfolding after_lines calls_of journal_by numbers_by
lines_give i gs es [] h = (same h, tt)
  where
    same : stands gs ≡ stands es → gs ≡ es
    same e = cc
lines_give i gs es (l ∷ ls) h = line_gives (suc i) gs es ls (calls_of ls) (λ hs k. lines_give (suc i) hs es ls k) (says l) h

-- a whole logbook's list is the journal of its calls, and each of them is accepted
pub journal_of_book : (xs : List ℕ) (es : List Entry) → book_of xs ≡ stands es → (journal (calls_of (split feed xs)) ≡ es) × Each (λ (n : ℕ). n ≡ 0) (numbers (calls_of (split feed xs)))
unfolding book_of journal numbers
journal_of_book xs es h = lines_give 0 [] es (split feed xs) h

-- ---- the call

-- a reading that gives a record is of lines that come to a list
whole_by : (o : Outcome) (r : Record) → ◌≡◌ {A = Result Record Failure} (Ok r) (reading_of o) → (es : List Entry) × (o ≡ stands es) × (r ≡ record_of es)
whole_by (stands es) r e = (es, refl, cc)
whole_by (refused i n) r e = cc
whole_by (not_understood i) r e = cc

-- A logbook of which `book::read` gives a record: it is the record of the journal of its lines' calls, each of them accepted.
pub whole_book : (κs : _) (i i' : _) (k : Result Record Failure) (r : Record) → read.Post κs (i, tt) k (i', tt) → k ≡ Ok r
    → (r ≡ record_of (journal (calls_of (split feed i.now)))) × Each (λ (n : ℕ). n ≡ 0) (numbers (calls_of (split feed i.now)))
whole_book κs i i' k r h w =
    let found = whole_by (book_of i.now) r (sym w ∙ h) in
    let calls = journal_of_book i.now found.0 found.1 in
    (found.2 ∙ ap record_of (sym calls.0), calls.1)
