-- A judgement of the next entry: what its answer says of it, and what stands then. Assumes nothing.
use mathlib.Core.Path.{◌≡◌, refl, sym, ap, ◌∙◌}
use mathlib.Core.List.{List, [], ◌∷◌, ◌++◌}
use Rattle.std.specs.Prelude.{Result, Ok, Err, Some, None}
use Rattle.std.specs.Result.{result_ok}
use Prim.Native.Nat.{ℕ, ◌<◌}
use lib.ListN.{length}
use Rattle.paper.specs.declared.Entry.{Entry}
use Rattle.paper.specs.declared.Refusal.{Refusal}
use Rattle.paper.specs.Numbers.{number_in}
use Rattle.paper.specs.Refusals.{entry_number}
use Rattle.paper.proofs.Numbers.{positive}
use Rattle.judge.specs.Standing.{Stands, stands_in, judged}
use Rattle.judge.proofs.Following.{kept_added, judged_at}

-- how many entries stand
pub entries_in : (es : List Entry) (o : Stands) → o ≡ stands_in es → o.entries ≡ length es
unfolding stands_in
entries_in es o h = ap (λ (p : Stands). p.entries) h

-- ---- a judgement: what its answer says by itself

pub refused_then : (r : Result (Unit {0}) Refusal) → None ≡ result_ok r → 0 < number_in r
refused_then (Ok x) h = cc
refused_then (Err r) h = positive r

pub added_then : (r : Result (Unit {0}) Refusal) (x : Unit {0}) → Some x ≡ result_ok r → number_in r ≡ 0
added_then (Ok y) x h = refl
added_then (Err r) x h = cc

-- where it was made of what stands in a list: the number is the entry's there, and what stands once the entry is added
module _ (es : List Entry) (o p : Stands) (e : Entry) (n : ℕ) (h : o ≡ stands_in es) (j : ◌≡◌ {A = ℕ × Stands} (n, p) (judged o e)) where
  pub number_there : n ≡ entry_number es e
  number_there = (judged_at es o p e n h j).0

  pub stands_then : n ≡ 0 → p ≡ stands_in (es ++ e ∷ [])
  stands_then z = (judged_at es o p e n h j).1 ∙ ap stands_in (kept_added es e (sym number_there ∙ z))
