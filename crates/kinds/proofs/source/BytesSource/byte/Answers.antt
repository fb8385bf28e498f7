-- `kinds::BytesSource::byte` meets its contract: a byte spells itself. Assumes nothing.
use Rattle.std.proofs.Common.{◌≡◌, ℕ, ◌+◌, ◌*◌, ◌^◌, ◌<◌, pos, List, [], ◌∷◌, length, get_or, take, ap, arith}
use Rattle.std.proofs.lemmas.List.{take_rest}
use Rattle.paper.specs.File.{byte, number_of, field_value}
use Rattle.kinds.proofs.Read.{of_bytes}
use Rattle.kinds.proofs.source.BytesSource.byte.Goals as goal

spelled : (xs : List ℕ) (n : ℕ) → 0 < length xs → n ≡ get_or xs 0 0 → pos n ≡ field_value byte (number_of (take 1 xs))
unfolding number_of field_value
spelled [] n h e = absurd (omega arith)
spelled (x ∷ xs) n h e = let f : n ≡ x * 256 ^ 0 + 0 = omega arith in ap pos f

pub returns : goal.returns
returns c =
    let xs = c.args.self.now.rest.now in
    record { values = of_bytes byte xs _ _ (spelled xs _ (omega arith) c.from.ensures) (take_rest xs 1); shorter = omega arith }
