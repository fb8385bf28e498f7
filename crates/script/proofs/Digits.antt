-- The number of a text's digits, one digit on and at their end. Assumes nothing.
use Rattle.std.proofs.Common.{◌≡◌, refl, ◌∙◌, ℕ, ◌+◌, ◌-◌, ◌*◌, ◌%◌, ◌<◌, ◌≤◌, true, false, List, length, drop, get_or}
use Rattle.std.proofs.lemmas.List.{at_drop_more, at_drop_all}
use Rattle.std.specs.Char.{is_ascii_digit}
use Rattle.script.specs.Digits.{digits_from}

pub digit_more : (n : ℕ) (s : List ℕ) (i : ℕ) → i < length s → is_ascii_digit (get_or s i 0) ≡ true → digits_from n (drop i s) ≡ digits_from (n % 1000000000 * 10 + (get_or s i 0 - 48)) (drop (i + 1) s)
unfolding digits_from
digit_more n s i h d = at_drop_more (digits_from n) s i 0 h ∙ rw d refl

pub no_digit : (n : ℕ) (s : List ℕ) (i : ℕ) → i < length s → is_ascii_digit (get_or s i 0) ≡ false → digits_from n (drop i s) ≡ n
unfolding digits_from
no_digit n s i h d = at_drop_more (digits_from n) s i 0 h ∙ rw d refl

pub no_more : (n : ℕ) (s : List ℕ) (i : ℕ) → length s ≤ i → digits_from n (drop i s) ≡ n
unfolding digits_from
no_more n s i h = at_drop_all (digits_from n) s i h
