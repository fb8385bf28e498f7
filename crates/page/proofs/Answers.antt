-- What the placard call answers, by what stands and how long the buffer is: the definition computed on what settles it.
-- Assumes nothing.
use mathlib.Core.Path.{◌≡◌, refl}
use mathlib.Core.List.{List}
use mathlib.Core.Option.{Option, none, some}
use Prim.Native.Nat.{ℕ, ◌≤◌, ◌<◌}
use lib.ListN.{length}
use borrow.Author.Tests.{lt-ltb, le-ltb}
use Rattle.std.specs.Prelude.{Result, Ok}
use Rattle.paper.specs.declared.Sheet.{Sheet}
use Rattle.paper.specs.declared.Seat.{Seat}
use Rattle.paper.specs.declared.Entry.{Entry}
use Rattle.paper.specs.declared.Placard.{Placard}
use Rattle.paper.specs.declared.Refusal.{Refusal}
use Rattle.paper.specs.Record.{Balance, balance_of, sheet_of, seat_of, ends_of, is_none}
use Rattle.paper.specs.Placard.{text, text_length}
use Rattle.paper.specs.Refusals.{first_number, placard_too_long, placard_number}
use Rattle.paper.specs.Answers.{over, placard_given, placard_refused, placard_by, placard_answer}

-- an answer, and the buffer behind it
abbrev pub Answered : Type 0
Answered = Result Placard Refusal × List ℕ

by_sheet : (o : Option Sheet) (f : Option Seat) (xs : List ℕ) → placard_by 7 o f none xs ≡ placard_refused 7 xs
by_sheet none f xs = refl
by_sheet (some s) f xs = refl

module _ (es : List Entry) (xs : List ℕ) where
  pub unweighed : balance_of es ≡ none → placard_answer es xs ≡ placard_refused 7 xs
  unfolding placard_answer placard_number first_number is_none
  unweighed e = rw e (by_sheet (sheet_of es) (seat_of es) xs)

  module _ (b : Balance) (weighed : balance_of es ≡ some b) where
    pub no_sheet : sheet_of es ≡ none → placard_answer es xs ≡ placard_refused 8 xs
    unfolding placard_answer placard_number first_number is_none
    no_sheet e = rw (weighed, e)

    module _ (s : Sheet) (sheet : sheet_of es ≡ some s) where
      pub too_short : length xs < text_length s → placard_answer es xs ≡ placard_refused 11 xs
      unfolding placard_answer placard_number first_number is_none placard_too_long
      too_short h = rw (weighed, sheet, lt-ltb (length xs) (text_length s) h)

      pub given : text_length s ≤ length xs → ◌≡◌ {A = Answered} (placard_answer es xs) (Ok (placard_given s (ends_of s (seat_of es)) b), over (text s (ends_of s (seat_of es)) b) xs)
      unfolding placard_answer placard_number first_number is_none placard_too_long
      given h = rw (weighed, sheet, le-ltb (length xs) (text_length s) h)
