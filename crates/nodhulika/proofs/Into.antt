-- Three numbers put into an answer's buffer, and what the calls that give numbers answer, each definition computed on what
-- settles it. Assumes nothing.
use mathlib.Core.Path.{◌≡◌, ap, ◌∙◌}
use mathlib.Core.List.{List, [], ◌++◌, append_assoc, append-nil}
use mathlib.Core.Option.{Option}
use Rattle.std.specs.Prelude.{Result, Ok, Err}
use Prim.Native.Nat.{ℕ, ◌≤◌, ◌<◌}
use native.Mathlib.Omega.{arith}
use lib.IntN.{ℤ, pos}
use lib.ListN.{length, length-append}
use borrow.Author.Tests.{lt-ltb, le-ltb}
use Rattle.laws.specs.Written.{written, written_first, written_follows}
use Rattle.paper.specs.declared.Entry.{Entry}
use Rattle.paper.specs.declared.CentreOfGravity.{CentreOfGravity}
use Rattle.paper.specs.declared.Placard.{Placard}
use Rattle.paper.specs.declared.Refusal.{Refusal}
use Rattle.paper.specs.Numbers.{number_of, number_in}
use Rattle.paper.specs.File.{bytes_of, complement, field_bytes, fields_bytes}
use Rattle.paper.specs.Answers.{over}
use Rattle.format.specs.Numbers.{length-bytes}
use Rattle.front.specs.Front.{equipment_for, placard_for}
use Rattle.nodhulika.specs.Exported.{answer_bytes, centre_into, count_or, equipment_into, counts_over, placard_into}

-- three numbers of eight bytes
abbrev pub three_words : ℕ → ℕ → ℕ → List ℕ
three_words x y z = bytes_of 8 x ++ (bytes_of 8 y ++ bytes_of 8 z)

pub three_put : (s a b d : List ℕ) (x y z : ℕ) → 24 ≤ length s → a ≡ written s 0 (bytes_of 8 x) → b ≡ written a 8 (bytes_of 8 y) → d ≡ written b 16 (bytes_of 8 z) → d ≡ written s 0 (three_words x y z)
three_put s a b d x y z h e f g =
    let two = bytes_of 8 x ++ bytes_of 8 y in
    let n : length two ≡ 16 = omega (arith, length-append (bytes_of 8 x) (bytes_of 8 y), length-bytes 8 x, length-bytes 8 y) in
    rw (g, f, e, written_follows s (bytes_of 8 x) (bytes_of 8 y) 8 (length-bytes 8 x) (omega arith), written_follows s two (bytes_of 8 z) 16 n (omega arith), append_assoc (bytes_of 8 x) (bytes_of 8 y) (bytes_of 8 z))

-- the answer's bytes over its buffer
module _ (answer last : List ℕ) (x y z : ℤ) (a b d : ℕ) (e : a ≡ complement 8 x) (f : b ≡ complement 8 y) (g : d ≡ complement 8 z) where
  words_are : three_words a b d ≡ answer_bytes x y z
  unfolding answer_bytes fields_bytes field_bytes
  words_are = rw (e, f, g, append-nil (bytes_of 8 (complement 8 z)))

  pub answered : last ≡ written answer 0 (three_words a b d) → last ≡ over (answer_bytes x y z) answer
  unfolding over
  answered l = l ∙ ap (written answer 0) words_are ∙ written_first answer (answer_bytes x y z)

-- ---- centre of gravity

module _ (o : Result CentreOfGravity Refusal) (answer : List ℕ) where
  pub centre_refused : (n : ℕ) (r : Refusal) → n ≡ number_of r → o ≡ Err r → (n, answer) ≡ centre_into o answer
  unfolding centre_into
  centre_refused n r e h = rw (e, h)

  module _ (c : CentreOfGravity) (h : o ≡ Ok c) where
    pub centre_short : length answer < 24 → (11, answer) ≡ centre_into o answer
    unfolding centre_into
    centre_short k = rw (h, lt-ltb (length answer) 24 k)

    pub centre_put : (last : List ℕ) → 24 ≤ length answer → last ≡ over (answer_bytes (pos c.total) c.moment c.centre) answer → (0, last) ≡ centre_into o answer
    unfolding centre_into
    centre_put last k l = rw (h, le-ltb (length answer) 24 k, l)

-- ---- placard

abbrev Given : Type 0
Given = Result Placard Refusal × List ℕ

module _ (o : Option (List Entry)) (out answer : List ℕ) where
  pub counts_short : (n : ℕ) (a : Result Placard Refusal) (none : List ℕ) → n ≡ number_in a → length answer < 24 → ◌≡◌ {A = Given} (a, none) (placard_for o []) → (n, out, answer) ≡ placard_into o out answer
  unfolding placard_into
  counts_short n a none k h e = rw (k, lt-ltb (length answer) 24 h, ← e)

  module _ (left : List ℕ) (h : 24 ≤ length answer) where
    pub placard_refused : (n : ℕ) (r : Refusal) → n ≡ number_of r → ◌≡◌ {A = Given} (Err r, left) (placard_for o out) → (n, left, answer) ≡ placard_into o out answer
    unfolding placard_into counts_over
    placard_refused n r k e = rw (k, le-ltb (length answer) 24 h, ← e)

    pub placard_put : (a : Placard) (last : List ℕ) → ◌≡◌ {A = Given} (Ok a, left) (placard_for o out) → last ≡ over (answer_bytes (pos a.bytes) (pos a.rows) (pos a.blank)) answer → (0, left, last) ≡ placard_into o out answer
    unfolding placard_into counts_over
    placard_put a last e l = rw (le-ltb (length answer) 24 h, ← e, l)

-- ---- equipment

-- by what is answered of the equipment, whatever it is
pub equipment_by : (o : Option (List Entry)) (arms weights nonlifting : List ℤ) (count : ℕ) (r : Result ℕ Refusal) (xs ys zs : List ℤ) → (r, xs, ys, zs) ≡ equipment_for o arms weights nonlifting
    → (number_in r, xs, ys, zs, count_or r count) ≡ equipment_into o arms weights nonlifting count
unfolding equipment_into
equipment_by o arms weights nonlifting count r xs ys zs e =
    ap (λ (q : Result ℕ Refusal × List ℤ × List ℤ × List ℤ). (number_in q.0, q.1, q.2, q.3, count_or q.0 count)) e
