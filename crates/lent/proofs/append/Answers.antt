-- `lent::append` meets its contract: the entry is put behind the file, and the header says so. Assumes nothing.
use mathlib.Core.Path.{ap}
use Prim.Native.Nat.{◌+◌}
use native.Mathlib.Omega.{arith}
use Rattle.laws.specs.Written.{written-part}
use Rattle.paper.specs.File.{entry_bytes}
use Rattle.lent.proofs.Answers.{entry_short, entry_added}
use Rattle.lent.proofs.append.Goals as goal

pub returns-then-buffer-found : goal.returns-then-buffer-found
returns-then-buffer-found c v es n f =
    let a = c.args in
    let end = a.found.now.end in
    entry_short a.buffer.now v es a.e end c.requires.1 f (omega (arith, c.length_of.ensures))

pub returns : goal.returns
returns c v es n f =
    let a = c.args in
    let end = a.found.now.end in
    entry_added a.buffer.now v es a.e end c.requires.1 f _ _ _ _ (omega arith) n (ap (λ k. end + k) c.put_entry.ensures.0) (written-part a.buffer.now _ (entry_bytes a.e) end c.put_entry.ensures.1) c.put_header.ensures
