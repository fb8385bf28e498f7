-- One line more: a text's lines one by one, what lines come to by the first of them, and a call's outcome by whether it is
-- refused. Assumes nothing.
use mathlib.Core.Path.{◌≡◌, refl, sym, ap, ◌∙◌}
use mathlib.Core.List.{List, [], ◌∷◌}
use Prim.Native.Nat.{ℕ, suc, ◌+◌, ◌≤◌, ◌<◌}
use native.Mathlib.Omega.{arith}
use borrow.Author.Tests.{eq-eqb, ne_eqb}
use lib.Dec.{eqb}
use lib.ListN.{length, get_or}
use Rattle.std.specs.Prelude.{Result, Ok, Err, MatchResult, IsErrAnd}
use Rattle.std.specs.List.{slice_split, enumerate_from}
use Rattle.std.proofs.lemmas.List.FromFn.{length-enumerate_from}
use Rattle.laws.specs.Splits.{split}
use Rattle.paper.specs.declared.Entry.{Entry}
use Rattle.paper.specs.declared.Refusal.{Refusal}
use Rattle.paper.specs.Placard.{feed}
use Rattle.paper.specs.Journal.{Call, call_number, accepted_call}
use Rattle.language.specs.Lines.{says}
use Rattle.language.proofs.Values.{split_is, part_here}
use Rattle.book.specs.declared.Failure.{Failure}
use Rattle.book.specs.Books.{Outcome, stands, refused, not_understood, called, after_line, after_lines}

-- ---- the lines of a text

-- a line behind the first i, and the number that it comes with
abbrev pub IsLine : List ℕ → ℕ → ℕ → List ℕ → Type 0
IsLine s i k xs = (k ≡ i) × (i < length (split feed s)) × (xs ≡ get_or (split feed s) i xs)

-- the parts with their places
abbrev pub parts : List ℕ → List (ℕ × List ℕ)
parts s = enumerate_from 0 (slice_split (λ (b : ℕ). eqb b feed) s)

pub line_here : (s : List ℕ) (i k : ℕ) (xs : List ℕ) → (i < length (parts s)) × ((k, xs) ≡ get_or (parts s) i (k, xs)) → IsLine s i k xs
line_here s i k xs t =
    let p = part_here (slice_split (λ (b : ℕ). eqb b feed) s) i k xs t in
    (p.0, rw (split_is feed s) at p.1, rw (split_is feed s) at p.2)

pub no_more : (s : List ℕ) (i : ℕ) → i ≡ length (parts s) → length (split feed s) ≤ i
no_more s i e =
    let ps = slice_split (λ (b : ℕ). eqb b feed) s in
    omega (arith, e, length-enumerate_from 0 ps, ap length (split_is feed s))

-- ---- an error that is mapped

pub mapped : (r : Result (Unit {0}) Refusal) (q : Result (Unit {0}) Failure) (P : Refusal → Failure → Type 0) → MatchResult r (λ x. q ≡ Ok x) (λ f. IsErrAnd q (P f)) → (x : Failure) → q ≡ Err x → (f : Refusal) × (r ≡ Err f) × P f x
mapped (Ok y) q P h x e = let no : ◌≡◌ {A = Result (Unit {0}) Failure} (Ok y) (Err x) = sym h ∙ e in cc
mapped (Err f) q P h x e = (f, refl, rw e at h)

-- ---- lines

-- what failed stays
pub refused_stays : (i j n : ℕ) (ls : List (List ℕ)) → refused j n ≡ after_lines i (refused j n) ls
unfolding after_lines
refused_stays i j n [] = refl
refused_stays i j n (l ∷ ls) = refl

pub not_understood_stays : (i j : ℕ) (ls : List (List ℕ)) → not_understood j ≡ after_lines i (not_understood j) ls
unfolding after_lines
not_understood_stays i j [] = refl
not_understood_stays i j (l ∷ ls) = refl

pub after_more : (i : ℕ) (es : List Entry) (xs : List ℕ) (ls : List (List ℕ)) → after_lines i (stands es) (xs ∷ ls) ≡ after_lines (i + 1) (after_line (i + 1) es (says xs)) ls
unfolding after_lines
after_more i es xs ls = let e : i + 1 ≡ suc i = omega arith in rw e

-- no lines change nothing
pub after_none : (i : ℕ) (o : Outcome) → after_lines i o [] ≡ o
unfolding after_lines
after_none i o = refl

-- ---- calls

pub called_refused : (i : ℕ) (es : List Entry) (x : Call) → 0 < call_number es x → called i es x ≡ refused i (call_number es x)
unfolding called
called_refused i es x h = rw (ne_eqb (call_number es x) 0 (λ e. omega arith))

pub called-accepted : (i : ℕ) (es : List Entry) (x : Call) → call_number es x ≡ 0 → called i es x ≡ stands (accepted_call es x)
unfolding called
called-accepted i es x e = rw (eq-eqb (call_number es x) 0 e)
