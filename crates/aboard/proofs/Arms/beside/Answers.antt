-- `Arms::beside` meets its contract: the empty glider and the rear load together, within their bounds. Assumes nothing.
use Prim.Native.Nat.{◌≤◌}
use native.Mathlib.Omega.{arith}
use Rattle.balance.specs.Balance.{plain}
use Rattle.aboard.specs.Aboard.{Stands}
use Rattle.aboard.proofs.Standing.{stands_laid, beside_none}
use Rattle.aboard.proofs.Arms.beside.Goals as goal

pub returns : goal.returns
returns c =
    let a = c.args.self.now in
    let q = c.args.b in
    let b = c.requires.0 in
    let x = c.laid-empty.result in
    let l = c.laid-empty.ensures in
    let m = l.1 4000000 b.ranged.most in
    let weight : x.weight ≤ 4000000 = rw l.0 b.ranged.most in
    let up : x.moment.up ≤ 65536000000000000 = rw l.0 b.moment.up in
    let down : x.moment.down ≤ 65536000000000000 = rw l.0 b.moment.down in
    let h = c.grams_at.ensures.0 in
    let empty : Stands a.force.sheet (plain q).total (plain q).moment x = rw l.0 (stands_laid q.total q.moment a) in
    rw c.carried.ensures.0 (
      record {
        weight = omega (arith, h.weight);
        moment = record { up = omega (arith, h.moment.up); down = omega (arith, h.moment.down) };
        forward = record { up = omega (arith, m.0.up, h.forward.up); down = omega (arith, m.0.down, h.forward.down) };
        safe = record { up = omega (arith, m.1.up, h.safe.up); down = omega (arith, m.1.down, h.safe.down) };
      },
      beside_none a.force.sheet (plain q) c.args.rear x c.grams_at.result empty (rw a.rear_is.value at c.grams_at.ensures.1),
    )
