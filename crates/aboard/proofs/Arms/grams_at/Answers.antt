-- `Arms::grams_at` meets its contract: the weight in half grams at the arm, and what that stands for. Assumes nothing.
use Rattle.std.proofs.Common.{◌≡◌, ◌*◌, ◌≤◌, arith}
use Rattle.laws.specs.Sides.{times_of, Below, below_more, below_times}
use Rattle.aboard.specs.Aboard.{laid_out}
use Rattle.aboard.proofs.Standing.{load_of}
use Rattle.aboard.proofs.Arms.grams_at.Goals as goal

pub returns : goal.returns
returns c =
    let a = c.args in
    let l = c.laid.ensures in
    let most : 2 * a.grams ≤ 4000000 = omega (arith, c.requires.0) in
    let turned : Below 160000000000000 (times_of (2 * a.grams) a.arm) =
    below_more (times_of (2 * a.grams) a.arm) (omega arith) (below_times (2 * a.grams) a.arm most c.requires.1) in
    let e : c.laid.result ≡ laid_out (2 * a.grams) (times_of (2 * a.grams) a.arm) a.self.now = rw (← c.mul.ensures) l.0 in (
      record { weight = rw e most; moment = rw e turned; forward = (l.1 4000000 most).0; safe = (l.1 4000000 most).1 },
      rw e (load_of a.grams a.arm a.self.now),
    )
