-- Elements put into a list one behind the other: the place behind them and the list as they leave it, by what is written first
-- and what is written behind it. Assumes nothing.
use Rattle.std.specs.Prelude.{◌≡◌, List, [], ◌∷◌, ◌++◌, ℕ, ◌+◌, ◌≤◌, ◌<◌, length, set}
use Rattle.std.proofs.Common.{sym, ap, subst, ◌∙◌, arith, length-append}
use Rattle.laws.specs.Written.{written, written_none, length-written, written_one, written-more}

-- xs are put into s from a place on, p is the place behind them, and t the list afterwards
abbrev pub Put : {A : Type 0} → List A → ℕ → List A → ℕ → List A → Type 0
Put s at xs p t = (p ≡ at + length xs) × (t ≡ written s at xs)

-- nothing
pub put_none : {A : Type 0} (s : List A) (at : ℕ) → Put s at [] at s
put_none s at = (omega arith, sym (written_none s at))

module _ {A : Type 0} (s : List A) (at : ℕ) (xs : List A) (p : ℕ) (t : List A) (m : Put s at xs p t) where
  pub put_as : (ys : List A) → xs ≡ ys → Put s at ys p t
  put_as ys e = subst (λ (l : List A). Put s at l p t) e m

  pub put-length : at + length xs ≤ length s → length t ≡ length s
  put-length h = ap length m.1 ∙ length-written s at xs h

  -- others behind them
  pub put_then : (ys : List A) (q : ℕ) (u : List A) → at + length xs ≤ length s → Put t p ys q u → Put s at (xs ++ ys) q u
  put_then ys q u h n = (
    omega (arith, m.0, n.0, length-append xs ys),
    n.1 ∙ rw (m.1, m.0) (written-more s at xs ys h),
  )

  -- one behind them
  pub put_one : (y : A) → at + length xs < length s → Put s at (xs ++ y ∷ []) (p + 1) (set t p y)
  put_one y h =
      put_then (y ∷ []) (p + 1) (set t p y) (omega arith) (omega arith, written_one t p y (omega (arith, m.0, put-length (omega arith))))
