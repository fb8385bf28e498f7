-- `entries::put_stored` meets its contract: the kind, and behind it the fields. Assumes nothing.
use Rattle.std.proofs.Common.{ℕ, List, set, ap, ◌∙◌, arith}
use Rattle.laws.specs.Written.{written, written-part, written_behind}
use Rattle.paper.specs.Numbers.{code_of}
use Rattle.paper.specs.File.{values_of, fields_bytes}
use Rattle.format.specs.Rows.{fields_at}
use Rattle.entries.proofs.Rows.{code}
use Rattle.entries.proofs.put_stored.Goals as goal

pub returns : goal.returns
returns g c =
    let a = c.args in
    let t = g.T.Stored in
    let xs : List ℕ = fields_bytes (fields_at (code_of t.KIND)) (values_of (t.entry a.x)) in (
      omega (arith, c.LENGTH.ensures),
      written-part (set a.out.now 0 _) _ xs 1 c.put.ensures ∙ ap (λ (n : ℕ). written (set a.out.now 0 n) 1 xs) (code c.KIND.result ∙ ap code_of c.KIND.ensures) ∙ written_behind a.out.now 0 (code_of t.KIND) xs (omega arith),
    )
