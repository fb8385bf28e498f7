-- `Standing::add` meets its contract: 9 first, then by the entry's kind. Assumes nothing.
use Rattle.std.proofs.Common.{◌≡◌, sym, ◌∙◌, ap, rules}
use Rattle.paper.specs.declared.Refusal.TheVariants as refusal
use Rattle.paper.specs.Numbers.{number_in, number_of}
use Rattle.judge.specs.Standing.{plainly}
use Rattle.judge.proofs.Judging.{refused_at, full_at, refused_by, added_by, missing, unweighed, unsheeted, by_balance, by_ends, weighed_after, forced_after, balance_changed, force_moved}
use Rattle.judge.proofs.Standing.add.Goals as goal

pub returns-then-self-ge-CAPACITY : goal.returns-then-self-ge-CAPACITY
returns-then-self-ge-CAPACITY c =
    let o = plainly c.args.self.now in
    refused_at o c.args.e refusal.Full (full_at o c.args.e c.if-self-ge-CAPACITY.true)

pub returns-in_err-weighed-in-Weighing : goal.returns-in_err-weighed-in-Weighing
returns-in_err-weighed-in-Weighing c =
    let n : number_in c.from_residual.result ≡ number_of c.in_err-weighed-in-Weighing.field-0.0 = search rules in
    rw (n, c.in-Weighing.is)
    (refused_by (plainly c.args.self.now) _ c.if-self-ge-CAPACITY.false _ c.in_err-weighed-in-Weighing.ensures.number)

pub returns-in_err-new-in-Sheet : goal.returns-in_err-new-in-Sheet
returns-in_err-new-in-Sheet c =
    let n : number_in c.from_residual-in_err-new-in-Sheet.result ≡ number_of c.in_err-new-in-Sheet.field-0.0 = search rules in
    rw (n, c.in-Sheet.is)
    (refused_by (plainly c.args.self.now) _ c.if-self-ge-CAPACITY.false _ c.in_err-new-in-Sheet.ensures.number)

pub returns-in_err-b-in-Change : goal.returns-in_err-b-in-Change
returns-in_err-b-in-Change c =
    let n : number_in c.from_residual-in_err-b-in-Change.result ≡ number_of c.in_err-b-in-Change.field-0.0 = search rules in
    let m = missing c.args.self.now.balance _ _ c.in_err-b-in-Change.ensures.value in
    rw (n, c.in-Change.is)
    (refused_by (plainly c.args.self.now) _ c.if-self-ge-CAPACITY.false _ (ap number_of m.1 ∙ unweighed c.in-Change.x ∙ by_balance _ _ _ m.0))

pub returns-in_err-changed-in-Change : goal.returns-in_err-changed-in-Change
returns-in_err-changed-in-Change c =
    let n : number_in c.from_residual-in_err-changed-in-Change.result ≡ number_of c.in_err-changed-in-Change.field-0.0 = search rules in
    rw (n, c.in-Change.is)
    (refused_by (plainly c.args.self.now) _ c.if-self-ge-CAPACITY.false _ (c.in_err-changed-in-Change.ensures.number ∙ by_balance _ _ _ c.in_ok-b-in-Change.ensures.ok_part))

pub weigh-requires-in-Change : goal.weigh-requires-in-Change
weigh-requires-in-Change c =
    let b = c.args.self.now.sound _ c.in_ok-b-in-Change.ensures.ok_part in
    (c.if-self-ge-CAPACITY.false, c.in_ok-changed-in-Change.ensures.accepted.1 _ b)

pub returns-in_err-weighed-in-Paired : goal.returns-in_err-weighed-in-Paired
returns-in_err-weighed-in-Paired c =
    let n : number_in c.from_residual-in_err-weighed-in-Paired.result ≡ number_of c.in_err-weighed-in-Paired.field-0.0 = search rules in
    rw (n, c.in-Paired.is)
    (refused_by (plainly c.args.self.now) _ c.if-self-ge-CAPACITY.false _ c.in_err-weighed-in-Paired.ensures.number)

pub returns-in_err-x-in-Seat : goal.returns-in_err-x-in-Seat
returns-in_err-x-in-Seat c =
    let n : number_in c.from_residual-in_err-x-in-Seat.result ≡ number_of c.in_err-x-in-Seat.field-0.0 = search rules in
    let m = missing c.args.self.now.force _ _ c.in_err-x-in-Seat.ensures.value in
    rw (n, c.in-Seat.is)
    (refused_by (plainly c.args.self.now) _ c.if-self-ge-CAPACITY.false _ (ap number_of m.1 ∙ unsheeted _ c.in-Seat.f m.0))

pub returns-in_err-moved-in-Seat : goal.returns-in_err-moved-in-Seat
returns-in_err-moved-in-Seat c =
    let n : number_in c.from_residual-in_err-moved-in-Seat.result ≡ number_of c.in_err-moved-in-Seat.field-0.0 = search rules in
    rw (n, c.in-Seat.is)
    (refused_by (plainly c.args.self.now) _ c.if-self-ge-CAPACITY.false _ (c.in_err-moved-in-Seat.ensures.number ∙ by_ends _ _ c.in-Seat.f c.in_ok-x-in-Seat.ensures.ok_part))

pub returns-in_ok-weighed-in-Weighing : goal.returns-in_ok-weighed-in-Weighing
returns-in_ok-weighed-in-Weighing c =
    rw c.in-Weighing.is
    (added_by (plainly c.args.self.now) _ c.if-self-ge-CAPACITY.false _ c.in_ok-weighed-in-Weighing.ensures.number (c.weigh.ensures ∙ weighed_after (plainly c.args.self.now) c.in_ok-weighed-in-Weighing.field-0 _ c.in_ok-weighed-in-Weighing.ensures.accepted.0))

pub returns-in_ok-new-in-Sheet : goal.returns-in_ok-new-in-Sheet
returns-in_ok-new-in-Sheet c =
    rw c.in-Sheet.is
    (added_by (plainly c.args.self.now) _ c.if-self-ge-CAPACITY.false _ c.in_ok-new-in-Sheet.ensures.number (c.put_in_force.ensures ∙ forced_after (plainly c.args.self.now) c.in_ok-new-in-Sheet.field-0 _ c.in_ok-new-in-Sheet.ensures.accepted))

pub returns-in_ok-weighed-in-Paired : goal.returns-in_ok-weighed-in-Paired
returns-in_ok-weighed-in-Paired c =
    rw c.in-Paired.is
    (added_by (plainly c.args.self.now) _ c.if-self-ge-CAPACITY.false _ c.in_ok-weighed-in-Paired.ensures.number (c.weigh-in-Paired.ensures ∙ weighed_after (plainly c.args.self.now) c.in_ok-weighed-in-Paired.field-0 _ c.in_ok-weighed-in-Paired.ensures.accepted.0))

pub returns-in_ok-changed-in-Change : goal.returns-in_ok-changed-in-Change
returns-in_ok-changed-in-Change c =
    let n = c.in_ok-changed-in-Change.ensures.number ∙ by_balance _ _ _ c.in_ok-b-in-Change.ensures.ok_part in
    rw (c.in-Change.is)
    (added_by (plainly c.args.self.now) _ c.if-self-ge-CAPACITY.false _ n
    (c.weigh-in-Change.ensures ∙ weighed_after (plainly c.args.self.now) c.in_ok-changed-in-Change.field-0 _ c.in_ok-changed-in-Change.ensures.accepted.0
    ∙ sym (balance_changed c.args.self.now c.in_ok-b-in-Change.b c.in-Change.x c.in_ok-b-in-Change.ensures.ok_part)))

pub returns-in_ok-moved-in-Seat : goal.returns-in_ok-moved-in-Seat
returns-in_ok-moved-in-Seat c =
    let n = c.in_ok-moved-in-Seat.ensures.number ∙ by_ends _ _ c.in-Seat.f c.in_ok-x-in-Seat.ensures.ok_part in
    rw (c.in-Seat.is)
    (added_by (plainly c.args.self.now) _ c.if-self-ge-CAPACITY.false _ n
    (c.put_in_force-in-Seat.ensures
    ∙ forced_after (plainly c.args.self.now) c.in_ok-moved-in-Seat.field-0 _ c.in_ok-moved-in-Seat.ensures.accepted
    ∙ sym (force_moved c.args.self.now c.in_ok-x-in-Seat.x c.in-Seat.f c.in_ok-x-in-Seat.ensures.ok_part)))
