-- Tests as Bools: what `&&`, `||` and `not` say, both ways, and orders as tests. Assumes nothing.
use Rattle.std.specs.Prelude.{◌≡◌, refl, Bool, true, false, not, ◌&&◌, ◌||◌, ℕ, ◌+◌, ◌-◌, ◌≤◌, leb, ltb}
use Rattle.std.proofs.Common.{sym, ◌∙◌, true≢false, arith, lt-ltb, le-ltb, le-leb, leb-true}
use Rattle.std.proofs.Math.Bool.{and-false}
use Rattle.std.proofs.Math.Decide.{dec_le}
use Rattle.std.proofs.lemmas.Bool.{lt-leb, not-true, not-false}

-- two tests are equal where each passes if the other does
pub same : (a b : Bool) → (a ≡ true → b ≡ true) → (b ≡ true → a ≡ true) → a ≡ b
same true b f g = sym (f refl)
same false true f g = g refl
same false false f g = refl

pub isnt : (b : Bool) → (b ≡ true → ⊥) → b ≡ false
isnt true h = absurd (h refl)
isnt false h = refl

-- both pass
pub both : (a b : Bool) → a ≡ true → b ≡ true → (a && b) ≡ true
both true b e h = h
both false b e h = e

pub left : (a b : Bool) → (a && b) ≡ true → a ≡ true
left true b e = refl
left false b e = e

pub right : (a b : Bool) → (a && b) ≡ true → b ≡ true
right true b e = e
right false b e = cc

pub left_passes : (a b : Bool) → a ≡ true → b ≡ (a && b)
left_passes true b e = refl
left_passes false b e = cc

-- one of the two fails
pub left_fails : (a b : Bool) → a ≡ false → (a && b) ≡ false
left_fails true b e = cc
left_fails false b e = refl

pub right_fails : (a b : Bool) → b ≡ false → (a && b) ≡ false
right_fails true b e = e
right_fails false b e = refl

-- a test of one only where the other passes
pub and_by : (a b : Bool) → elim a as (λ _. Bool) [ true ↦ b | false ↦ false ] ≡ (a && b)
and_by true b = refl
and_by false b = refl

-- four of them, the middle two the other way round
pub and_swapped : (a b c d : Bool) → ((a && b) && (c && d)) ≡ ((a && c) && (b && d))
and_swapped true true c d = refl
and_swapped true false c d = sym (and-false c)
and_swapped false b c d = refl

-- three of which one passes, the first two the other way round
pub or_swap : (x y z : Bool) → (x || (y || z)) ≡ (y || (x || z))
or_swap true true z = refl
or_swap true false z = refl
or_swap false y z = refl

-- neither of the two passes
pub or_self : (b : Bool) → (b || b) ≡ b
or_self true = refl
or_self false = refl

pub not_left : (a b : Bool) → (a || b) ≡ false → a ≡ false
not_left true b e = e
not_left false b e = refl

pub not_right : (a b : Bool) → (a || b) ≡ false → b ≡ false
not_right true b e = cc
not_right false b e = e

-- the other way round
pub turned : (a : Bool) → a ≡ true → not a ≡ false
turned true e = refl
turned false e = sym e

pub turned_no : (a : Bool) → a ≡ false → not a ≡ true
turned_no true e = sym e
turned_no false e = refl

-- not both ways
pub clash : (b : Bool) → b ≡ true → b ≡ false → ⊥
clash b t f = true≢false (sym t ∙ f)

pub and_not : (a b : Bool) → ((a && b) && not b) ≡ false
and_not true true = refl
and_not true false = refl
and_not false b = refl

-- r answers the test t, and was turned
pub failed : {r t : Bool} → r ≡ t → not r ≡ true → t ≡ false
failed e h = sym e ∙ not-true _ h

pub passed : {r t : Bool} → r ≡ t → not r ≡ false → t ≡ true
passed e h = sym e ∙ not-false _ h

-- a condition holds that cannot fail
pub holds : {q : Bool} → (q ≡ false → ⊥) → true ≡ q
holds {q = true} f = refl
holds {q = false} f = absurd (f refl)

-- a test passes, since a condition that holds where it fails does not hold
pub kept : {q : Bool} (t : Bool) → q ≡ false → (t ≡ false → q ≡ true) → t ≡ true
kept true e f = refl
kept false e f = sym e ∙ f refl

-- a test is the condition that holds where it passes and fails where it fails
pub decides : {q : Bool} (t : Bool) → (t ≡ true → true ≡ q) → (t ≡ false → q ≡ false) → t ≡ q
decides true f g = f refl
decides false f g = sym (g refl)

-- the order of two numbers, tested from either side
pub ltb_not : (a b : ℕ) → ltb a b ≡ not (leb b a)
ltb_not a b =
    elim (dec_le b a) as (λ d. ltb a b ≡ not (leb b a)) [
      | yes k ↦ simp (le-ltb a b k, le-leb b a k)
      | no k ↦ simp (lt-ltb a b (omega arith), lt-leb b a (omega arith))
    ]

-- by other numbers
pub leb_by : {t : Bool} (m n k l : ℕ) → m ≡ k → n ≡ l → leb k l ≡ t → leb m n ≡ t
leb_by m n k l e f h = rw (e, f) h

-- one that stands w behind another
pub leb-behind : (w t n : ℕ) → w ≤ n → leb t (n - w) ≡ leb (w + t) n
leb-behind w t n h =
    elim (dec_le (w + t) n) as (λ d. leb t (n - w) ≡ leb (w + t) n) [
      | yes k ↦ rw (le-leb (w + t) n k) (le-leb t (n - w) (omega arith))
      | no k ↦ rw (lt-leb (w + t) n (omega arith)) (lt-leb t (n - w) (omega arith))
    ]

-- a number in a span, as a test and in numbers
pub in_span : (lo hi p : ℕ) → lo ≤ p → p ≤ hi → (leb lo p && leb p hi) ≡ true
in_span lo hi p h k = both (leb lo p) (leb p hi) (le-leb lo p h) (le-leb p hi k)

pub span_lo : (lo hi p : ℕ) → (leb lo p && leb p hi) ≡ true → lo ≤ p
span_lo lo hi p e = leb-true lo p (left (leb lo p) (leb p hi) e)

pub span_hi : (lo hi p : ℕ) → (leb lo p && leb p hi) ≡ true → p ≤ hi
span_hi lo hi p e = leb-true p hi (right (leb lo p) (leb p hi) e)

pub span : (lo hi p : ℕ) → (leb lo p && leb p hi) ≡ true → (lo ≤ p) × (p ≤ hi)
span lo hi p e = (span_lo lo hi p e, span_hi lo hi p e)
