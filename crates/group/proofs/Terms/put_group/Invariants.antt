-- `Terms::put_group` meets its contract. The loop's invariant: what is aboard is the rear load and the water of k steps, and the
-- first k rows of the group are put, and their blank ones counted, whatever the balance that the loop began with. Assumes nothing.
use mathlib.Core.Path.{◌≡◌}
use Prim.Native.Nat.{◌*◌, ◌≤◌}
use lib.ListN.{length}
use Rattle.paper.specs.Record.{Balance}
use Rattle.aboard.specs.Aboard.{Beside, Room}
use Rattle.limits.specs.Seats.{NoneOf}
use Rattle.group.proofs.Buffer.{GroupTo}
use Rattle.group.proofs.Terms.put_group.Given as goal

abbrev pub invariant-loop-k : goal.invariant-loop-k
invariant-loop-k l =
    let force = l.self.front.arms.force in
    (l.k ≤ length l.fields) × (l.none ≤ l.k) × (length l.out ≡ length l.initial.out) × Room l.k l.x × ((b : Balance) → Beside force.sheet b l.rear 0 l.initial.x → Beside force.sheet b l.rear (l.k * force.sheet.water.step) l.x × (NoneOf force.sheet force.seat b l.rear l.span → GroupTo force.sheet force.seat b (l.j * length l.fields) l.k l.none l.initial.out l.out))
