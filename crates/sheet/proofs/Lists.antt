-- The sheet in force of a list with one entry more, and that it was accepted: by recursion on the list. Assumes nothing.
use mathlib.Core.Path.{◌≡◌, sym, ap, ◌∙◌}
use mathlib.Core.Bool.{true}
use mathlib.Core.List.{List, [], ◌∷◌, ◌++◌}
use mathlib.Core.Option.{some, or_else, some-injective}
use native.Mathlib.Omega.{arith}
use lib.Dec.{eqb}
use borrow.Author.Tests.{eqb-true}
use Rattle.laws.specs.Tests.{left, right}
use Rattle.laws.specs.Options.{or_none, or_assoc, or_either}
use Rattle.paper.specs.declared.Sheet.{Sheet}
use Rattle.paper.specs.declared.Entry.{Entry}
use Rattle.paper.specs.declared.Entry.TheVariants as entry
use Rattle.paper.specs.Record.{as_sheet, sheet_of}
use Rattle.paper.specs.Refusals.{first_number, full, sheet_faults, sheet_number, entry_number, accepted_after, accepted}
use Rattle.paper.proofs.Numbers.{no_other}

pub sheet-more : (es : List Entry) (e : Entry) → sheet_of (es ++ e ∷ []) ≡ or_else (as_sheet e) (sheet_of es)
unfolding sheet_of or_else
sheet-more [] e = sym (or_none (as_sheet e))
sheet-more (f ∷ es) e = ap (λ o. or_else o (as_sheet f)) (sheet-more es e) ∙ or_assoc (as_sheet e) (sheet_of es) (as_sheet f)

-- ---- it was accepted

one_sheet : (es : List Entry) (e : Entry) (s : Sheet) → as_sheet e ≡ some s → entry_number es e ≡ 0 → first_number (sheet_faults s) ≡ 0
unfolding entry_number sheet_number
one_sheet es (entry.Weighing w) s e n = cc
one_sheet es (entry.Sheet t) s e n =
    sym (ap (λ (u : Sheet). first_number (sheet_faults u)) (some-injective t s e)) ∙ no_other 9 (full es) _ (omega arith) n
one_sheet es (entry.Change x) s e n = cc
one_sheet es (entry.Paired x) s e n = cc
one_sheet es (entry.Seat f) s e n = cc

sheet-after : (es fs : List Entry) (s : Sheet) → accepted_after es fs ≡ true → sheet_of fs ≡ some s → first_number (sheet_faults s) ≡ 0
unfolding accepted_after sheet_of
sheet-after es [] s h e = cc
sheet-after es (f ∷ fs) s h e =
    let n = eqb-true (entry_number es f) 0 (left (eqb (entry_number es f) 0) (accepted_after (es ++ f ∷ []) fs) h) in
    let more = right (eqb (entry_number es f) 0) (accepted_after (es ++ f ∷ []) fs) h in
    or_either (sheet_of fs) (as_sheet f) s (first_number (sheet_faults s) ≡ 0) e (λ k. sheet-after (es ++ f ∷ []) fs s more k) (λ k. one_sheet es f s k n)

pub sheet-accepted : (es : List Entry) (s : Sheet) → accepted es ≡ true → sheet_of es ≡ some s → first_number (sheet_faults s) ≡ 0
unfolding accepted
sheet-accepted es s h e = sheet-after [] es s h e
