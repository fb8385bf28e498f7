-- What a line says, by the tests of the code: whether it is passed over, by its first byte; and each answer by the tests before
-- it. Assumes nothing.
use mathlib.Core.Path.{◌≡◌, refl, ap, ◌∙◌}
use mathlib.Core.Bool.{Bool, true, false, ◌&&◌}
use mathlib.Core.List.{List, [], ◌∷◌}
use Prim.Native.Nat.{ℕ}
use native.Mathlib.Omega.{arith}
use lib.Dec.{eqb}
use Rattle.std.proofs.Common.{eqb-true}
use borrow.Author.Tests.{ne_eqb}
use lib.ListN.{length, get_or}
use lib.Pointwise.{pointwise}
use Rattle.laws.specs.Equal.{eq_list}
use Rattle.paper.specs.declared.Entry.{Entry}
use Rattle.wording.specs.Texts.{entry_text}
use Rattle.language.specs.declared.Line.TheVariants as line
use Rattle.language.specs.Lines.{undo_text, comment_sign, passed_over, candidate, says}

-- ---- equal bytes

same_test : (xs ys : List ℕ) → pointwise eqb xs ys ≡ eq_list eqb xs ys
same_test [] [] = refl
same_test [] (y ∷ ys) = refl
same_test (x ∷ xs) [] = refl
same_test (x ∷ xs) (y ∷ ys) = ap (λ (b : Bool). eqb x y && b) (same_test xs ys)

-- what std's test answers of some bytes that are others
pub same_as : (xs ys zs : List ℕ) (t : Bool) → t ≡ pointwise eqb xs ys → ys ≡ zs → t ≡ eq_list eqb xs zs
same_as xs ys zs t e f = e ∙ same_test xs ys ∙ ap (eq_list eqb xs) f

-- ---- what is passed over

pub passed_empty : (xs : List ℕ) → eqb (length xs) 0 ≡ true → passed_over xs ≡ true
unfolding passed_over
passed_empty [] e = refl
passed_empty (x ∷ xs) e = absurd (omega (arith, eqb-true (length (x ∷ xs)) 0 e))

pub passed_comment : (xs : List ℕ) → eqb (get_or xs 0 0) comment_sign ≡ true → passed_over xs ≡ true
unfolding passed_over
passed_comment [] e = refl
passed_comment (x ∷ xs) e = e

pub not_passed : (xs : List ℕ) → eqb (length xs) 0 ≡ false → (get_or xs 0 0 ≡ comment_sign → ⊥) → passed_over xs ≡ false
unfolding passed_over
not_passed [] h k = cc
not_passed (x ∷ xs) h k = ne_eqb x comment_sign k

-- ---- the answers

module _ (xs : List ℕ) where
  pub says_passed : passed_over xs ≡ true → line.Passed ≡ says xs
  unfolding says
  says_passed h = rw h

  module _ (h : passed_over xs ≡ false) where
    pub says_undo : eq_list eqb xs undo_text ≡ true → line.Undo ≡ says xs
    unfolding says
    says_undo u = rw (h, u)

    module _ (u : eq_list eqb xs undo_text ≡ false) (e : Entry) (c : e ≡ candidate xs) where
      pub says_entry : eq_list eqb xs (entry_text e) ≡ true → line.Entry e ≡ says xs
      unfolding says
      says_entry t = rw (h, u, ← c, t)

      pub says_unknown : eq_list eqb xs (entry_text e) ≡ false → line.NotUnderstood ≡ says xs
      unfolding says
      says_unknown t = rw (h, u, ← c, t)
