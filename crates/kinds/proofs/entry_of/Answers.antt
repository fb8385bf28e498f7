-- `kinds::entry_of` meets its contract: each field takes one value. Assumes nothing.
use Rattle.std.proofs.Common.{◌∙◌, arith}
use Rattle.paper.specs.Numbers.{code_of}
use Rattle.format.specs.Rows.{fields_at}
use Rattle.kinds.proofs.Read.{sizes_one}
use Rattle.kinds.proofs.entry_of.Goals as goal

pub read-requires : goal.read-requires
read-requires g c =
    let t = g.T.Stored in
    omega (arith, sizes_one (fields_at (code_of t.KIND)), g.met.T.Stored.counted)

pub returns : goal.returns
returns g c = c.read.ensures ∙ g.met.T.Stored.shown c.args.v.now
