-- What a call writes of a record into a buffer.
use Rattle.std.specs.Prelude.{◌≡◌, List, ℕ, Result}
use Rattle.std.specs.Fn.{Once}
use Rattle.std.specs.Borrow.{Bor, MutBor}
use Rattle.paper.specs.declared.Refusal.{Refusal}
use Rattle.record.specs.declared.Record.{Record}

-- a call of f at a record and a buffer that holds `old` may answer r, and leave `new` there
pub record Writes {F : Type 0} (g : Once F (Bor Record × (MutBor (List ℕ) × Unit {0})) (Result ℕ Refusal × (MutBor (List ℕ) × Unit {0}))) (f : F) (log : Record) (old : List ℕ) (r : Result ℕ Refusal) (new : List ℕ) : Type 0 where
  pub shown : Bor Record
  pub lent : MutBor (List ℕ)
  pub shows : (shown.now ≡ log) × (lent.now ≡ old)
  pub left : MutBor (List ℕ)
  pub met : g.post f (shown, (lent, tt)) (r, (left, tt))
  pub leaves : left.now ≡ new
