-- `language::candidate` meets its contract: the kind is that of the first two letters, and the values are those of the words
-- behind the first space. Assumes nothing.
use mathlib.Core.Path.{ap, ◌∙◌}
use mathlib.Core.List.{List}
use Prim.Native.Nat.{ℕ}
use lib.IntN.{ℤ}
use lib.ListN.{get_or}
use Rattle.paper.specs.File.{entry_of}
use Rattle.language.specs.Lines.{kind_named, candidate}
use Rattle.language.proofs.candidate.Goals as goal

pub returns : goal.returns
unfolding candidate
returns c =
    let s = c.args.s.now in
    c.entry_of.ensures
    ∙ ap (λ (j : ℕ). entry_of j c.values_of.result) c.kind_of.ensures
    ∙ ap (λ (v : List ℤ). entry_of (kind_named (get_or s 0 0) (get_or s 1 0)) v) c.values_of.ensures
