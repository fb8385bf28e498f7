-- `reading::bad_distance` meets its contract: its tests are the definition's, once that is opened. Assumes nothing.
use Rattle.std.proofs.Common.{rules, ◌≡◌, sym}
use borrow.Author.Tests.{lt-leb}
use mathlib.Core.Bool.{or-true}
use Rattle.paper.specs.Units.{is_arm}
use Rattle.paper.specs.Refusals.{bad_distance}
use Rattle.reading.proofs.bad_distance.Goals as goal

pub returns-then-not-holds : goal.returns-then-not-holds
unfolding bad_distance
returns-then-not-holds c =
    let arm : c.holds.result ≡ is_arm c.args.w.a = search rules in
    simp (sym arm, c.if-not-holds.true)

pub returns-then-w-lt1 : goal.returns-then-w-lt1
unfolding bad_distance
returns-then-w-lt1 c = simp (lt-leb _ _ c.if-w-lt1.true, or-true)

pub returns : goal.returns
unfolding bad_distance
returns c = search rules
