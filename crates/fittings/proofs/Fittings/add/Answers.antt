-- `Fittings::add` meets its contract: at its place or in its gap the change makes the equipment of the changes with that one. Assumes
-- nothing.
use Rattle.std.proofs.Common.{rules, ◌≡◌, ◌≤◌, length, arith, SFits}
use Rattle.std.specs.Int.{w64}
use Rattle.std.proofs.lemmas.Int.{to_z-of_z}
use Rattle.laws.specs.Z.{Within}
use Rattle.stations.specs.More.{most_net}
use Rattle.fittings.proofs.Places.{written_there, put_there, read_there, room}
use Rattle.fittings.proofs.Nets.{weights_within, parts_within}
use Rattle.fittings.proofs.Fittings.add.Goals as goal

pub added-requires-clause-weight : goal.added-requires-clause-weight
added-requires-clause-weight c =
    let s = c.args.self.now in
    let xs = c.requires.known.0 in
    let l : length s.places ≡ 64 = search rules in
    let few : s.count ≤ 64 = search rules in
    let r = room s.places s.count c.in-Ok.at xs c.args.x c.requires.known.1 (omega arith) in
    let h = c.in-Ok.ensures.found.place in
    let k = c.requires.known.2 in
    read_there s.places s.count c.in-Ok.at xs c.args.x c.requires.known.1 (λ x. Within most_net x.weight) _ (omega (arith, r.0)) h (weights_within xs (omega (arith, k.few)) k.fine)

pub added-requires-clause-nonlifting : goal.added-requires-clause-nonlifting
added-requires-clause-nonlifting c =
    let s = c.args.self.now in
    let xs = c.requires.known.0 in
    let l : length s.places ≡ 64 = search rules in
    let few : s.count ≤ 64 = search rules in
    let r = room s.places s.count c.in-Ok.at xs c.args.x c.requires.known.1 (omega arith) in
    let h = c.in-Ok.ensures.found.place in
    let k = c.requires.known.2 in
    read_there s.places s.count c.in-Ok.at xs c.args.x c.requires.known.1 (λ x. Within most_net x.nonlifting) _ (omega (arith, r.0)) h (parts_within xs (omega (arith, k.few)) k.fine)

pub insert-requires : goal.insert-requires
insert-requires c =
    let s = c.args.self.now in
    let xs = c.requires.known.0 in
    let l : length s.places ≡ 64 = search rules in
    let few : s.count ≤ 64 = search rules in
    let r = room s.places s.count c.in-Err.at xs c.args.x c.requires.known.1 (omega arith) in
    let at = c.in-Err.ensures.absent in
    let h = at.place in
    let k = c.requires.known.2 in
    (omega (arith, r.0), omega (arith, r.1, k.few))

pub returns-in-Ok : goal.returns-in-Ok
returns-in-Ok c xs e =
    let s = c.args.self.now in
    let l : length s.places ≡ 64 = search rules in
    let few : s.count ≤ 64 = search rules in
    let f : SFits w64 c.args.x.arm = search rules in
    let r = room s.places s.count c.in-Ok.at xs c.args.x e (omega arith) in
    let at = rw (to_z-of_z w64 c.args.x.arm f) at c.in-Ok.ensures.found in
    let h = at.place in
    rw c.added.ensures (written_there s.places s.count c.in-Ok.at xs c.args.x e _ (omega (arith, r.0)) at)

pub returns-in-Err : goal.returns-in-Err
returns-in-Err c xs e =
    let s = c.args.self.now in
    let f : SFits w64 c.args.x.arm = search rules in
    let at = rw (to_z-of_z w64 c.args.x.arm f) at c.in-Err.ensures.absent in
    rw (c.insert.ensures, c.alone.ensures) (put_there s.places s.count c.in-Err.at xs c.args.x e at)
