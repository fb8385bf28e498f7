-- `kinds::entry_from` meets its contract: each field takes as many bytes as its row says. Assumes nothing.
use Rattle.std.proofs.Common.{arith}
use Rattle.paper.specs.Numbers.{code_of}
use Rattle.format.specs.Rows.{fields_at}
use Rattle.kinds.specs.Values.{values_from}
use Rattle.kinds.proofs.Read.{sizes_widths}
use Rattle.kinds.proofs.entry_from.Goals as goal

pub read-requires : goal.read-requires
read-requires g c =
    let t = g.T.Stored in
    omega (arith, sizes_widths (fields_at (code_of t.KIND)), g.met.T.Stored.sized)

pub returns : goal.returns
unfolding values_from
returns g c = c.read.ensures
