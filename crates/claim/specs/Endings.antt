-- How a placard call ends: given where a weighing and a sheet stand and the buffer holds it, else refused; by what stands.
-- Assumes nothing.
use Rattle.std.specs.Prelude.{◌≡◌, refl, Bool, true, false, not, ◌&&◌, List, ℕ, ◌<◌, eqb, Result, Ok, Err}
use Rattle.std.proofs.Common.{sym, ap, ◌∙◌, true≢false}
use Rattle.std.proofs.Math.Option.{Option, none, some, map, some-injective}
use Rattle.std.proofs.Math.Decide.{dec_le}
use native.Mathlib.Omega.{arith}
use Rattle.std.proofs.Math.ListN.{length}
use borrow.Author.Tests.{lt-ltb, le-ltb, eq-eqb}
use Rattle.paper.specs.declared.Sheet.{Sheet}
use Rattle.paper.specs.declared.Change.{Change}
use Rattle.paper.specs.declared.Entry.{Entry}
use Rattle.paper.specs.declared.Placard.{Placard}
use Rattle.paper.specs.declared.Refusal.{Refusal}
use Rattle.paper.specs.Numbers.{refusal_of, number_in}
use Rattle.paper.proofs.Numbers.{not_0}
use Rattle.paper.specs.Record.{Balance, Readings, weighed, changed_by, last_weighing, balance_of, sheet_of, seat_of, ends_of, is_none, weighing_stands, sheet_stands}
use Rattle.paper.specs.Rows.{row_count}
use Rattle.paper.specs.Placard.{text, text_length, blank_count}
use Rattle.paper.specs.Refusals.{first_number, placard_too_long, placard_number}
use Rattle.paper.specs.Answers.{over, placard_given, placard_refused, placard_answer}
use Rattle.page.proofs.Answers.{unweighed, no_sheet, too_short, given}

-- a weighing and a sheet stand, and a buffer of n bytes holds the placard
abbrev pub stands : List Entry → ℕ → Bool
stands es n = weighing_stands es && sheet_stands es && not (placard_too_long (sheet_of es) n)

pub data Ending (es : List Entry) (xs : List ℕ) : Type 0 where
  refused : (n : ℕ) → 0 < n → placard_number es (length xs) ≡ n → stands es (length xs) ≡ false → placard_answer es xs ≡ placard_refused n xs → Ending es xs
  printed : (s : Sheet) (b : Balance) → sheet_of es ≡ some s → balance_of es ≡ some b → stands es (length xs) ≡ true
      → placard_answer es xs ≡ (Ok (placard_given s (ends_of s (seat_of es)) b), over (text s (ends_of s (seat_of es)) b) xs) → Ending es xs

-- ---- what stands, by the balance and the sheet

no_weighing : (es : List Entry) → balance_of es ≡ none → weighing_stands es ≡ false
unfolding balance_of weighing_stands is_none
no_weighing es = by (last_weighing es)
  where
    by : (o : Option (Readings × List Change)) → map (λ (x : Readings × List Change). changed_by (weighed x.0) x.1) o ≡ none → not (is_none o) ≡ false
    by none e = refl
    by (some x) e = cc

a_weighing : (es : List Entry) (b : Balance) → balance_of es ≡ some b → weighing_stands es ≡ true
unfolding balance_of weighing_stands is_none
a_weighing es b = by (last_weighing es)
  where
    by : (o : Option (Readings × List Change)) → map (λ (x : Readings × List Change). changed_by (weighed x.0) x.1) o ≡ some b → not (is_none o) ≡ true
    by none e = cc
    by (some x) e = refl

module _ (es : List Entry) (xs : List ℕ) where
  without_weighing : balance_of es ≡ none → Ending es xs
  unfolding placard_number first_number is_none
  without_weighing e = refused 7 (omega arith) (rw e) (rw (no_weighing es e)) (unweighed es xs e)

  module _ (b : Balance) (w : balance_of es ≡ some b) where
    without_sheet : sheet_of es ≡ none → Ending es xs
    unfolding placard_number first_number is_none sheet_stands
    without_sheet e = refused 8 (omega arith) (rw (w, e)) (rw (a_weighing es b w, e)) (no_sheet es xs b w e)

    with-sheet : (s : Sheet) → sheet_of es ≡ some s → Ending es xs
    unfolding placard_number first_number is_none sheet_stands placard_too_long
    with-sheet s e =
        elim (dec_le (text_length s) (length xs)) as (λ d. Ending es xs) [
          | yes k ↦
              printed s b e w (rw (a_weighing es b w, e, le-ltb (length xs) (text_length s) k)) (given es xs b w s e k)
          | no k ↦
              let short : length xs < text_length s = omega arith in
              refused 11 (omega arith) (rw (w, e, lt-ltb (length xs) (text_length s) short)) (rw (a_weighing es b w, e, lt-ltb (length xs) (text_length s) short)) (too_short es xs b w s e short)
        ]

    by_sheet : (o : Option Sheet) → sheet_of es ≡ o → Ending es xs
    by_sheet none e = without_sheet e
    by_sheet (some s) e = with-sheet s e

  by_balance : (o : Option Balance) → balance_of es ≡ o → Ending es xs
  by_balance none e = without_weighing e
  by_balance (some b) e = by_sheet b e (sheet_of es) refl

pub ending : (es : List Entry) (xs : List ℕ) → Ending es xs
ending es xs = by_balance es xs (balance_of es) refl

-- ---- what the answer says then

-- of the answer and of the buffer as the call leaves it
pub record Answered (es : List Entry) (xs : List ℕ) (a : Result Placard Refusal) (ys : List ℕ) : Type 0 where
  pub exactly : eqb (number_in a) 0 ≡ stands es (length xs)
  pub else : eqb (number_in a) 0 ≡ false → (a ≡ Err (refusal_of (placard_number es (length xs)))) × (ys ≡ xs)
  pub whole : (s : Sheet) (b : Balance) → sheet_of es ≡ some s → balance_of es ≡ some b → number_in a ≡ 0 → (a ≡ Ok (record { bytes = text_length s; rows = row_count s; blank = blank_count s (ends_of s (seat_of es)) b })) × (ys ≡ over (text s (ends_of s (seat_of es)) b) xs)

pub says : (es : List Entry) (xs : List ℕ) (a : Result Placard Refusal) (ys : List ℕ) → a ≡ (placard_answer es xs).0 → ys ≡ (placard_answer es xs).1 → Answered es xs a ys
unfolding placard_refused placard_given
says es xs a ys e f = by (ending es xs)
  where
    by : Ending es xs → Answered es xs a ys
    by (refused n h number s q) =
        let answer : a ≡ Err (refusal_of n) = e ∙ ap (λ p. p.0) q in
        let no : eqb (number_in a) 0 ≡ false = ap (λ (b : Result Placard Refusal). eqb (number_in b) 0) answer ∙ not_0 (refusal_of n) in
        record {
          exactly = no ∙ sym s;
          else = λ k. (answer ∙ ap (λ (m : ℕ). Err (refusal_of m)) (sym number), f ∙ ap (λ p. p.1) q);
          whole = λ t b u w k. absurd (true≢false (sym (eq-eqb (number_in a) 0 k) ∙ no));
        }
    by (printed t b u w s q) =
        let answer = e ∙ ap (λ p. p.0) q in
        let yes : eqb (number_in a) 0 ≡ true = ap (λ (c : Result Placard Refusal). eqb (number_in c) 0) answer in
        record {
          exactly = yes ∙ sym s;
          else = λ k. absurd (true≢false (sym yes ∙ k));
          whole =
              λ t' b' u' w' k.
              let same-sheet = some-injective t t' (sym u ∙ u') in
              let same-balance = some-injective b b' (sym w ∙ w') in
              (rw (same-sheet, same-balance) at answer, rw (same-sheet, same-balance) at (f ∙ ap (λ p. p.1) q));
        }
