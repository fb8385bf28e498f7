-- The number that a word stands for, by the side of 0 that it is on. Assumes nothing.
use Rattle.std.proofs.Common.{◌≡◌, ℕ, ◌+◌, ◌*◌, ◌%◌, ◌<◌, ◌≤◌, pos, ◌-ℤ◌, ◌∙◌, arith, le-leb}
use native.Mathlib.Decide.{dec_lt}
use borrow.Author.Tests.{lt-leb}
use Rattle.laws.specs.Z.{zs, is_nat, is_sub}
use Rattle.paper.specs.File.{signed_word, field_value}

low_word : (n : ℕ) → n < 2147483648 → pos n ≡ field_value signed_word n
unfolding field_value
low_word n h = simp (lt-leb 4294967296 (2 * n) (omega arith))

high_word : (n : ℕ) → 2147483648 ≤ n → n < 4294967296 → pos n -ℤ pos 4294967296 ≡ field_value signed_word n
unfolding field_value
high_word n h k =
    simp (le-leb 4294967296 (2 * n) (omega arith))
    (omega (arith, zs, is_sub (is_nat n) (is_nat 4294967296)))

-- turned round by half of all words, and back by as much
pub from_middle : (n r : ℕ) → n < 4294967296 → r ≡ (n + 2147483648) % 4294967296 → pos r -ℤ pos 2147483648 ≡ field_value signed_word n
from_middle n r h e =
    elim (dec_lt n 2147483648) as (λ d. pos r -ℤ pos 2147483648 ≡ field_value signed_word n) [
      | yes k ↦
          let f : pos r -ℤ pos 2147483648 ≡ pos n = omega (arith, zs, is_sub (is_nat r) (is_nat 2147483648)) in
          f ∙ low_word n k
      | no k ↦
          let f : pos r -ℤ pos 2147483648 ≡ pos n -ℤ pos 4294967296 =
          omega (arith, zs, is_sub (is_nat r) (is_nat 2147483648), is_sub (is_nat n) (is_nat 4294967296)) in
          f ∙ high_word n (omega arith) h
    ]
