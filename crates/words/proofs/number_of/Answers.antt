-- `words::number_of` meets its contract: what each byte is worth, by computing it. Assumes nothing.
use Rattle.std.proofs.Common.{◌≡◌, ℕ, List, [], ◌∷◌, ◌∙◌, length, arith, rules}
use Rattle.std.specs.Int.{w32, from_be_bytes}
use Rattle.paper.specs.File.{number_of}
use Rattle.words.proofs.number_of.Goals as goal

spelled : (xs : List ℕ) → length xs ≡ 4 → from_be_bytes w32 xs ≡ number_of xs
unfolding number_of
spelled [] h = absurd (omega arith)
spelled (a ∷ []) h = absurd (omega arith)
spelled (a ∷ b ∷ []) h = absurd (omega arith)
spelled (a ∷ b ∷ c ∷ []) h = absurd (omega arith)
spelled (a ∷ b ∷ c ∷ d ∷ []) h = omega arith
spelled (a ∷ b ∷ c ∷ d ∷ e ∷ xs) h = absurd (omega arith)

pub returns : goal.returns
returns c = c.from_be_bytes.ensures ∙ spelled c.args.bytes (search rules)
