-- `kinds::station` meets its contract: its three fields, one behind the other. Assumes nothing.
use Rattle.std.proofs.Common.{refl, arith}
use Rattle.kinds.proofs.Read.{held, then_given}
use Rattle.kinds.proofs.source.station.Goals as goal

pub returns : goal.returns
returns g c =
    record {
      values = λ fs. then_given (held c.signed.type_inv c.signed.ensures) (then_given c.word.ensures (then_given c.word-2.ensures refl));
      shorter = omega (arith, c.signed.ensures.shorter, c.word.ensures.shorter, c.word-2.ensures.shorter);
    }
