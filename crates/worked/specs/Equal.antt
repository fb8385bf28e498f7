-- Tests that two rows, two lines or two answers of a placard are equal, and that what passes is. Assumes nothing.
use Rattle.std.specs.Prelude.{◌≡◌, refl, Bool, true, false, ◌&&◌, Some, None, List, ℕ, eqb, Result, Ok, Err}
use Rattle.std.proofs.Common.{eqb-true, sym, ap, ◌∙◌}
use Rattle.laws.specs.Tests.{left, right}
use Rattle.laws.specs.Equal.{eq_list, same_list}
use Rattle.paper.specs.Rows.{Row}
use Rattle.paper.specs.declared.Placard.{Placard}
use Rattle.paper.specs.declared.Refusal.{Refusal}
use Rattle.paper.specs.Numbers.{number_of, refusal_of}
use Rattle.paper.proofs.Numbers.{number_back}

abbrev pub eq_row : Row → Row → Bool
eq_row (Some (a, b)) (Some (c, d)) = eqb a c && eqb b d
eq_row (Some (a, b)) None = false
eq_row None (Some (c, d)) = false
eq_row None None = true

pub same_row : (x y : Row) → eq_row x y ≡ true → x ≡ y
same_row (Some (a, b)) (Some (c, d)) e =
    rw (eqb-true a c (left (eqb a c) (eqb b d) e), eqb-true b d (right (eqb a c) (eqb b d) e))
same_row (Some (a, b)) None e = cc
same_row None (Some (c, d)) e = cc
same_row None None e = refl

-- rear load, water and row
abbrev pub Line : Type 0
Line = ℕ × ℕ × Row

abbrev pub eq_line : Line → Line → Bool
eq_line x y = eqb x.0 y.0 && (eqb x.1 y.1 && eq_row x.2 y.2)

pub same_line : (x y : Line) → eq_line x y ≡ true → x ≡ y
same_line (r, w, x) (r', w', x') e =
    let f = right (eqb r r') (eqb w w' && eq_row x x') e in
    rw (
      eqb-true r r' (left (eqb r r') (eqb w w' && eq_row x x') e),
      eqb-true w w' (left (eqb w w') (eq_row x x') f),
      same_row x x' (right (eqb w w') (eq_row x x') f),
    )

-- the answer of a placard call and the buffer as it leaves it
abbrev pub Answer : Type 0
Answer = Result Placard Refusal × List ℕ

unfoldable pub eq_placard : Placard → Placard → Bool
eq_placard x y = eqb x.bytes y.bytes && (eqb x.rows y.rows && eqb x.blank y.blank)

same_placard : (x y : Placard) → eq_placard x y ≡ true → x ≡ y
unfolding eq_placard
same_placard x y e =
    let f = right (eqb x.bytes y.bytes) (eqb x.rows y.rows && eqb x.blank y.blank) e in
    let bytes = eqb-true x.bytes y.bytes (left (eqb x.bytes y.bytes) (eqb x.rows y.rows && eqb x.blank y.blank) e) in
    let rows = eqb-true x.rows y.rows (left (eqb x.rows y.rows) (eqb x.blank y.blank) f) in
    let blank = eqb-true x.blank y.blank (right (eqb x.rows y.rows) (eqb x.blank y.blank) f) in
    λ i. record { bytes = bytes i; rows = rows i; blank = blank i }

unfoldable pub eq_result : Result Placard Refusal → Result Placard Refusal → Bool
eq_result (Ok x) (Ok y) = eq_placard x y
eq_result (Ok x) (Err r) = false
eq_result (Err r) (Ok y) = false
eq_result (Err r) (Err q) = eqb (number_of r) (number_of q)

same_result : (x y : Result Placard Refusal) → eq_result x y ≡ true → x ≡ y
unfolding eq_result
same_result (Ok x) (Ok y) e = ap (λ (a : Placard). Ok a) (same_placard x y e)
same_result (Ok x) (Err r) e = cc
same_result (Err r) (Ok y) e = cc
same_result (Err r) (Err q) e =
    let same = sym (number_back r) ∙ ap refusal_of (eqb-true (number_of r) (number_of q) e) ∙ number_back q in
    ap (λ (f : Refusal). Err f) same

abbrev pub eq_answer : Answer → Answer → Bool
eq_answer x y = eq_result x.0 y.0 && eq_list eqb x.1 y.1

pub same_answer : (x y : Answer) → eq_answer x y ≡ true → x ≡ y
same_answer (a, xs) (b, ys) e =
    let answer = same_result a b (left (eq_result a b) (eq_list eqb xs ys) e) in
    let bytes = same_list eqb (λ (m n : ℕ). eqb-true m n) xs ys (right (eq_result a b) (eq_list eqb xs ys) e) in
    λ i. (answer i, bytes i)
