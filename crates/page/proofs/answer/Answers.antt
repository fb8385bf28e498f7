-- `page::answer` meets its contract: each way out is the definition on what settles it, for every list of which that stands.
-- Assumes nothing.
use mathlib.Core.Path.{◌≡◌, refl, sym, ap, ◌∙◌}
use mathlib.Core.List.{List}
use mathlib.Core.Option.{some}
use Prim.Native.Nat.{ℕ, ◌≤◌}
use lib.ListN.{length}
use native.Mathlib.Omega.{arith}
use Rattle.std.proofs.Common.{rules}
use Rattle.std.specs.Prelude.{Result, Ok, Err, Some}
use Rattle.laws.specs.Written.{written, written_first}
use Rattle.paper.specs.declared.Entry.{Entry}
use Rattle.paper.specs.declared.Refusal.{Refusal}
use Rattle.paper.specs.declared.Placard.{Placard}
use Rattle.paper.specs.Record.{balance_of, sheet_of, seat_of, ends_of}
use Rattle.paper.specs.Numbers.{refusal_of}
use Rattle.paper.specs.Rows.{row_count}
use Rattle.paper.specs.Placard.{text, text_length, blank_count}
use Rattle.paper.specs.Answers.{over, placard_given, placard_refused, placard_answer}
use Rattle.seat.specs.declared.InForce.{InForce}
use Rattle.seat.specs.InForce.{found, in_force}
use Rattle.seat.proofs.Lists.{force_none, force_apart}
use Rattle.balance.specs.declared.Balance.{Balance}
use Rattle.balance.specs.Balance.{plain}
use Rattle.judge.specs.declared.Standing.{Standing}
use Rattle.judge.specs.Standing.{Stands, stands_in, balance_in, plainly}
use Rattle.judge.proofs.Judging.{missing}
use Rattle.page.proofs.Answers.{Answered, unweighed, no_sheet, too_short, given}
use Rattle.page.proofs.answer.Goals as goal

abbrev Answer : Type 0
Answer = Result Placard Refusal

module _ (standing : Standing) (es : List Entry) (w : plainly standing ≡ stands_in es) where
  balance_is : balance_of es ≡ balance_in standing.balance
  unfolding stands_in
  balance_is = sym (ap (λ (o : Stands). o.balance) w)

  force_is : in_force es ≡ found standing.force
  unfolding stands_in
  force_is = sym (ap (λ (o : Stands). o.force) w)

  -- a weighing stands
  weighed_of : (b : Balance) → standing.balance ≡ Some b → balance_of es ≡ some (plain b)
  weighed_of b e = balance_is ∙ ap balance_in e

  -- a sheet stands
  found_of : (x : InForce) → standing.force ≡ Some x → (sheet_of es ≡ some x.sheet) × (ends_of x.sheet (seat_of es) ≡ x.seat)
  found_of x e = force_apart es _ _ (force_is ∙ ap found e)

-- a refusal as the code has it
refused_as : (es : List Entry) (xs : List ℕ) (a : Answer) (n : ℕ) → a ≡ Err (refusal_of n) → placard_answer es xs ≡ placard_refused n xs → ◌≡◌ {A = Answered} (a, xs) (placard_answer es xs)
unfolding placard_refused
refused_as es xs a n e h = ap {B = Answered} (λ (x : Answer). (x, xs)) e ∙ sym h

-- a placard as the code has it
given_as : (es : List Entry) (xs : List ℕ) (b : Balance) (x : InForce) → balance_of es ≡ some (plain b) → (sheet_of es ≡ some x.sheet) × (ends_of x.sheet (seat_of es) ≡ x.seat) → text_length x.sheet ≤ length xs
    → ◌≡◌ {A = Answered} (placard_answer es xs) (Ok (record { bytes = text_length x.sheet; rows = row_count x.sheet; blank = blank_count x.sheet x.seat (plain b) }), written xs 0 (text x.sheet x.seat (plain b)))
unfolding placard_given over
given_as es xs b x w s h =
    rw (s.1, ← written_first xs (text x.sheet x.seat (plain b))) at (given es xs (plain b) w x.sheet s.0 h)

pub returns-in_err-b : goal.returns-in_err-b
unfolding refusal_of
returns-in_err-b c es w =
    let standing = c.args.standing.now in
    let m = missing standing.balance _ _ c.in_err-b.ensures.value in
    let told : ◌≡◌ {A = Answer} c.from_residual.result (Err c.in_err-b.field-0.0) = search rules in
    refused_as _ _ _ 7 (told ∙ ap (λ (r : Refusal). Err r) m.1) (unweighed _ _ (balance_is standing es w ∙ ap balance_in m.0))

pub returns-in_err-force : goal.returns-in_err-force
unfolding refusal_of
returns-in_err-force c es w =
    let standing = c.args.standing.now in
    let m = missing standing.force _ _ c.in_err-force.ensures.value in
    let b = weighed_of standing es w c.in_ok-b.b c.in_ok-b.ensures.ok_part in
    let told : ◌≡◌ {A = Answer} c.from_residual-in_err-force.result (Err c.in_err-force.field-0.0) = search rules in
    refused_as _ _ _ 8 (told ∙ ap (λ (r : Refusal). Err r) m.1) (no_sheet _ _ _ b (force_none es (force_is standing es w ∙ ap found m.0)))

pub returns-then-out-bytes : goal.returns-then-out-bytes
unfolding text_length refusal_of
returns-then-out-bytes c es w =
    let standing = c.args.standing.now in
    let rows = c.row_count-rows.ensures in
    let b = weighed_of standing es w c.in_ok-b.b c.in_ok-b.ensures.ok_part in
    let s = found_of standing es w c.in_ok-force.force c.in_ok-force.ensures.ok_part in
    refused_as _ _ _ 11 refl (too_short _ _ _ b _ s.0 (omega (arith, rows)))

pub returns : goal.returns
unfolding text_length
returns c es w =
    let standing = c.args.standing.now in
    let rows = c.row_count-rows.ensures in
    let put = c.put_rows-blank.ensures in
    let b = weighed_of standing es w c.in_ok-b.b c.in_ok-b.ensures.ok_part in
    let s = found_of standing es w c.in_ok-force.force c.in_ok-force.ensures.ok_part in
    sym (rw (← rows.0, ← put.0, ← put.1) at (given_as es c.args.out.now c.in_ok-b.b c.in_ok-force.force b s (omega (arith, rows))))
