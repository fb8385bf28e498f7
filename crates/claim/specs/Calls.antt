-- One call more of a list is one step more of its journal, whatever the numbers go by; and the record that a call leaves
-- follows it. Assumes nothing.
use Rattle.std.specs.Prelude.{◌≡◌, ℕ, Result}
use Rattle.std.proofs.Math.Path.{refl, ap}
use Rattle.std.proofs.Common.{sym, ◌∙◌, subst}
use mathlib.Core.List.{List, [], ◌∷◌, ◌++◌}
use Rattle.paper.specs.declared.Entry.{Entry}
use Rattle.paper.specs.declared.Refusal.{Refusal}
use Rattle.paper.specs.Numbers.{number_in}
use Rattle.paper.specs.Journal.{Call, call_number, after_call, after_by, journal_by, numbers_by, journal, numbers}
use Rattle.record.specs.declared.Record.{Record}
use Rattle.record.specs.Held.{record_of, held_by, answered}
use Rattle.record.proofs.Calls.{Answer}
use Rattle.record.proofs.Following.{answered_list, answered_number, fresh_list, Made, made_fresh, made_answered}

-- ---- one call more

module _ (number : List Entry → Call → ℕ) where
  pub journal-more : (es : List Entry) (xs : List Call) (x : Call) → journal_by number es (xs ++ x ∷ []) ≡ after_by number (journal_by number es xs) x
  unfolding journal_by
  journal-more es [] x = refl
  journal-more es (y ∷ xs) x = journal-more (after_by number es y) xs x

  pub numbers_more : (es : List Entry) (xs : List Call) (x : Call) → numbers_by number es (xs ++ x ∷ []) ≡ numbers_by number es xs ++ number (journal_by number es xs) x ∷ []
  unfolding journal_by numbers_by
  numbers_more es [] x = refl
  numbers_more es (y ∷ xs) x = ap (λ (ns : List ℕ). number es y ∷ ns) (numbers_more (after_by number es y) xs x)

-- ---- a record

-- it holds the journal of some calls and is the record of it, and the numbers answered are the journal's
pub record Follows (calls : List Call) (r : Record) (answers : List ℕ) : Type 0 where
  pub list : held_by r ≡ journal calls
  pub made : Made r
  pub numbers : answers ≡ numbers calls

pub none_yet : (r : Record) → r ≡ record_of [] → Follows [] r []
unfolding journal numbers journal_by numbers_by
none_yet r e = record { list = ap held_by e ∙ fresh_list; made = subst Made (sym e) made_fresh; numbers = refl }

pub one_more : {calls : List Call} {r : Record} {answers : List ℕ} (x : Call) (before left : Record) (k : Result (Unit {0}) Refusal) → Follows calls r answers → before ≡ r → ◌≡◌ {A = Answer} (k, left) (answered before x) → Follows (calls ++ x ∷ []) left (answers ++ number_in k ∷ [])
unfolding journal numbers
one_more {calls} {r} {answers} x before left k f same call =
    let e : ◌≡◌ {A = Answer} (k, left) (answered r x) = rw same at call in
    let number : number_in k ≡ call_number (journal calls) x = ap (λ (a : Answer). number_in a.0) e ∙ answered_number r x ∙ ap (λ es. call_number es x) f.list in
    record {
      list = ap (λ (a : Answer). held_by a.1) e ∙ answered_list r x ∙ ap (λ es. after_call es x) f.list ∙ sym (journal-more call_number [] calls x);
      made = subst (λ (a : Answer). Made a.1) (sym e) (made_answered r x f.made);
      numbers = rw (number, f.numbers) (sym (numbers_more call_number [] calls x));
    }
