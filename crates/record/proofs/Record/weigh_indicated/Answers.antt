-- `Record::weigh_indicated` meets its contract: its readings are refused, or the call is that of the paired weighing that they feed.
-- Assumes nothing.
use Rattle.std.proofs.Common.{◌≡◌, refl, sym, ◌∙◌, rules, Result, Err}
use Rattle.paper.specs.declared.Refusal.{Refusal}
use Rattle.paper.specs.Indicator.{sent_by}
use Rattle.paper.proofs.Feeding.{refused_readings, fed_readings}
use Rattle.record.proofs.Calls.{refused_is}
use Rattle.paper.specs.Journal.{call_number, accepted_call}
use Rattle.record.specs.Held.{held_by, answered}
use Rattle.record.proofs.Record.weigh_indicated.Goals as goal

pub returns-in_err-pair : goal.returns-in_err-pair
unfolding answered call_number
returns-in_err-pair c =
    let r = c.in_err-pair.field-0.0 in
    let told : ◌≡◌ {A = Result (Unit {0}) Refusal} c.from_residual.result (Err r) = search rules in
    rw told (refused_is r _ c.args.self.now _ (sym (refused_readings (held_by c.args.self.now) (sent_by c.args.x) r c.in_err-pair.ensures)))

pub returns : goal.returns
unfolding answered call_number accepted_call
returns c =
    let f = fed_readings (held_by c.args.self.now) (sent_by c.args.x) c.in_ok-pair.pair c.in_ok-pair.ensures in
    rw f.0 at c.weigh_paired.ensures ∙ rw f.1 refl
