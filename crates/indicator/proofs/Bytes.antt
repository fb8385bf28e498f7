-- Bytes as a reading: the state, and the float that the other eight spell. Assumes nothing.
use Rattle.std.specs.Prelude.{◌≡◌, List, ◌∷◌, ℕ, suc, ◌^◌, ◌<◌, length, get_or, None, from_bits}
use Rattle.std.specs.Float.{binary64}
use Rattle.std.specs.Int.{w64, from_be_bytes, to_be_bytes}
use Rattle.std.proofs.Common.{sym, ap, ◌∙◌, ne_eqb, div-one, arith}
use Rattle.std.proofs.lemmas.Nat.{be_bytes_8}
use Rattle.paper.specs.File.{bytes_of, number_of}
use Rattle.paper.specs.Indicator.{reading_by, reading_of}
use Rattle.format.specs.Numbers.{number_back}

same_bytes : (n : ℕ) → bytes_of 8 n ≡ to_be_bytes w64 n
unfolding bytes_of
same_bytes n = rw (div-one n)

-- what eight bytes are to std they spell
spelled : (xs : List ℕ) (n : ℕ) → length xs ≡ 8 → ((i : ℕ) → get_or xs i 0 < 256) → n < 2 ^ 64 → n ≡ from_be_bytes w64 xs → n ≡ number_of xs
spelled xs n h b l e = sym (number_back 8 n l) ∙ ap number_of (same_bytes n ∙ be_bytes_8 xs n h b e)

pub no_bytes : (s : List ℕ) → length s ≡ 0 → None ≡ reading_of s
unfolding reading_of
no_bytes s h = rw h

module _ (s : List ℕ) (state : ℕ) (rest : List ℕ) (is : s ≡ state ∷ rest) where
  pub other_length : (length rest ≡ 8 → ⊥) → None ≡ reading_of s
  unfolding reading_of
  other_length f = rw (is, ne_eqb (suc (length rest)) 9 (λ e. f (omega arith)))

  pub nine_bytes : (n : ℕ) → length rest ≡ 8 → ((i : ℕ) → get_or s i 0 < 256) → n < 2 ^ 64 → n ≡ from_be_bytes w64 rest → reading_by state (from_bits binary64 n) ≡ reading_of s
  unfolding reading_of
  nine_bytes n h b l e =
      let bytes : (i : ℕ) → get_or rest i 0 < 256 = λ i. rw is at (b (suc i)) in
      rw (is, h, ← spelled rest n h bytes l e)
