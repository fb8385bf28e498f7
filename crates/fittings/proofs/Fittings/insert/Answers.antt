-- `Fittings::insert` meets its contract: those from the place on are moved up by one. Assumes nothing.
use Rattle.std.proofs.Common.{rules, ◌≡◌, length, arith}
use Rattle.fittings.proofs.Shifted.{inserted}
use Rattle.fittings.proofs.Fittings.insert.Goals as goal

pub returns : goal.returns
returns c =
    let s = c.args.self.now in
    let l : length s.places ≡ 64 = search rules in
    rw c.copy_within.ensures.after (inserted s.places c.args.at s.count c.args.x c.requires.0 (omega (arith, l, c.requires.1)))
