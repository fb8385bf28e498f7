-- What the calls answer, by their number: each definition computed on the one condition that settles it. Assumes nothing.
use mathlib.Core.Path.{◌≡◌, refl}
use mathlib.Core.Bool.{true, false}
use mathlib.Core.List.{List}
use Prim.Native.Nat.{ℕ, ◌<◌}
use lib.ListN.{length}
use borrow.Author.Tests.{eq-eqb, ne_eqb}
use Rattle.std.specs.Prelude.{Result, Ok, Err}
use Rattle.std.specs.Result.{is_ok}
use Rattle.paper.specs.declared.Entry.{Entry}
use Rattle.paper.specs.declared.Refusal.{Refusal}
use Rattle.paper.specs.Numbers.{number_of, number_in}
use Rattle.paper.specs.Refusals.{first_number, undo_number}
use Rattle.paper.proofs.Numbers.{positive, not_0, number_back}
use Rattle.record.specs.declared.Record.{Record}
use Rattle.record.specs.Held.{record_of, kept_or}

-- what a call answers, and the record that it leaves
abbrev pub Answer : Type 0
Answer = Result (Unit {0}) Refusal × Record

pub refused_is : (f : Refusal) (n : ℕ) (r : Record) (es : List Entry) → number_of f ≡ n → ◌≡◌ {A = Answer} (Err f, r) (kept_or n r es)
unfolding kept_or
refused_is f n r es e = rw (← e, not_0 f, number_back f)

pub accepted_is : (n : ℕ) (r s : Record) (es : List Entry) → n ≡ 0 → s ≡ record_of es → ◌≡◌ {A = Answer} (Ok tt, s) (kept_or n r es)
unfolding kept_or
accepted_is n r s es e l = rw (eq-eqb n 0 e, l)

pub undo_bare : (es : List Entry) → length es ≡ 0 → undo_number es ≡ 10
unfolding undo_number first_number
undo_bare es e = rw (eq-eqb (length es) 0 e)

pub undo_some : (es : List Entry) → (length es ≡ 0 → ⊥) → undo_number es ≡ 0
unfolding undo_number first_number
undo_some es h = rw (ne_eqb (length es) 0 h)

-- by whether an answer is an acceptance
pub ok_number : (a : Result (Unit {0}) Refusal) → is_ok a ≡ true → number_in a ≡ 0
ok_number (Ok x) e = refl
ok_number (Err f) e = cc

pub err_number : (a : Result (Unit {0}) Refusal) → is_ok a ≡ false → 0 < number_in a
err_number (Ok x) e = cc
err_number (Err f) e = positive f
