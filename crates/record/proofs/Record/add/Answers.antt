-- `Record::add` meets its contract: the list that the record holds settles the number and the record. Assumes nothing.
use Rattle.std.proofs.Common.{◌≡◌, refl, sym, ◌∙◌, rules, Result, Err}
use Rattle.paper.specs.declared.Refusal.{Refusal}
use Rattle.record.proofs.Replays.{number_is, room, log_more}
use Rattle.record.proofs.Calls.{refused_is, accepted_is}
use Rattle.record.specs.Held.{held_by}
use Rattle.record.proofs.Record.add.Goals as goal

pub returns-in_err-add : goal.returns-in_err-add
returns-in_err-add c =
    let told : ◌≡◌ {A = Result (Unit {0}) Refusal} c.from_residual.result (Err c.in_err-add.field-0.0) = search rules in
    rw told
    (refused_is c.in_err-add.field-0.0 _ c.args.self.now _ (number_is (held_by c.args.self.now) _ c.replay-now.ensures c.args.e _ _ c.in_err-add.ensures))

pub push-requires : goal.push-requires
push-requires c = room _ _ c.replay-now.ensures _ _ 0 c.in_ok-add.ensures refl

pub returns : goal.returns
returns c =
    let at = c.replay-now.ensures in
    let j = c.in_ok-add.ensures in
    accepted_is _ c.args.self.now _ _ (sym (number_is _ _ at _ _ 0 j)) (c.push.ensures ∙ log_more _ _ at _ _ 0 j refl)
