-- `indicator::pair` meets its contract: the readings in turn, by what each step answers. Assumes nothing.
use mir.Syntax.{w64}
use mir.Val.{of_z, to_z}
use mir.Facts.{to_z-of_z}
use Rattle.std.proofs.Common.{◌≡◌, rules, Result, Err}
use Rattle.paper.specs.declared.Paired.{Paired}
use Rattle.paper.specs.declared.Refusal.{Refusal}
use Rattle.paper.specs.Indicator.{sent_by}
use Rattle.indicator.proofs.Four.{steady, not_steady, loaded, not_loaded, first_unsteady, second_unsteady, third_unsteady, fourth_unsteady, first_bad, second_bad, third_bad, fourth_bad, all_counted}
use Rattle.indicator.proofs.pair.Goals as goal

pub returns-in_err-p : goal.returns-in_err-p
unfolding sent_by
returns-in_err-p c =
    let told : ◌≡◌ {A = Result Paired Refusal} c.from_residual.result (Err c.in_err-p.field-0.0) = search rules in
    let x = sent_by c.args.x in
    let u = not_steady _ _ c.in_err-p.ensures in
    rw (told, u.1) (first_unsteady x u.0)

pub returns-in_err-q : goal.returns-in_err-q
unfolding sent_by
returns-in_err-q c =
    let told : ◌≡◌ {A = Result Paired Refusal} c.from_residual-in_err-q.result (Err c.in_err-q.field-0.0) = search rules in
    let x = sent_by c.args.x in
    let sp = steady _ _ c.in_ok-p.ensures in
    let u = not_steady _ _ c.in_err-q.ensures in
    rw (told, u.1) (second_unsteady x c.in_ok-p.p sp u.0)

pub returns-in_err-p2 : goal.returns-in_err-p2
unfolding sent_by
returns-in_err-p2 c =
    let told : ◌≡◌ {A = Result Paired Refusal} c.from_residual-in_err-p2.result (Err c.in_err-p2.field-0.0) = search rules in
    let x = sent_by c.args.x in
    let sp = steady _ _ c.in_ok-p.ensures in
    let sq = steady _ _ c.in_ok-q.ensures in
    let u = not_steady _ _ c.in_err-p2.ensures in
    rw (told, u.1) (third_unsteady x c.in_ok-p.p sp c.in_ok-q.q sq u.0)

pub returns-in_err-q2 : goal.returns-in_err-q2
unfolding sent_by
returns-in_err-q2 c =
    let told : ◌≡◌ {A = Result Paired Refusal} c.from_residual-in_err-q2.result (Err c.in_err-q2.field-0.0) = search rules in
    let x = sent_by c.args.x in
    let sp = steady _ _ c.in_ok-p.ensures in
    let sq = steady _ _ c.in_ok-q.ensures in
    let sp2 = steady _ _ c.in_ok-p2.ensures in
    let u = not_steady _ _ c.in_err-q2.ensures in
    rw (told, u.1) (fourth_unsteady x c.in_ok-p.p sp c.in_ok-q.q sq c.in_ok-p2.p2 sp2 u.0)

pub returns-in_err-net : goal.returns-in_err-net
unfolding sent_by
returns-in_err-net c =
    let told : ◌≡◌ {A = Result Paired Refusal} c.from_residual-in_err-net.result (Err c.in_err-net.field-0.0) = search rules in
    let x = sent_by c.args.x in
    let sp = steady _ _ c.in_ok-p.ensures in
    let sq = steady _ _ c.in_ok-q.ensures in
    let sp2 = steady _ _ c.in_ok-p2.ensures in
    let sq2 = steady _ _ c.in_ok-q2.ensures in
    let u = not_loaded _ _ _ c.in_err-net.ensures in
    rw (told, u.1) (first_bad x c.in_ok-p.p sp c.in_ok-q.q sq c.in_ok-p2.p2 sp2 c.in_ok-q2.q2 sq2 u.0)

pub returns-in_err-net-2 : goal.returns-in_err-net-2
unfolding sent_by
returns-in_err-net-2 c =
    let told : ◌≡◌ {A = Result Paired Refusal} c.from_residual-in_err-net-2.result (Err c.in_err-net-2.field-0.0) = search rules in
    let x = sent_by c.args.x in
    let sp = steady _ _ c.in_ok-p.ensures in
    let sq = steady _ _ c.in_ok-q.ensures in
    let sp2 = steady _ _ c.in_ok-p2.ensures in
    let sq2 = steady _ _ c.in_ok-q2.ensures in
    let fp = loaded _ _ _ c.in_ok-net.ensures in
    let u = not_loaded _ _ _ c.in_err-net-2.ensures in
    rw (told, u.1) (second_bad x c.in_ok-p.p sp c.in_ok-q.q sq c.in_ok-p2.p2 sp2 c.in_ok-q2.q2 sq2 _ fp u.0)

pub returns-in_err-net-3 : goal.returns-in_err-net-3
unfolding sent_by
returns-in_err-net-3 c =
    let told : ◌≡◌ {A = Result Paired Refusal} c.from_residual-in_err-net-3.result (Err c.in_err-net-3.field-0.0) = search rules in
    let x = sent_by c.args.x in
    let sp = steady _ _ c.in_ok-p.ensures in
    let sq = steady _ _ c.in_ok-q.ensures in
    let sp2 = steady _ _ c.in_ok-p2.ensures in
    let sq2 = steady _ _ c.in_ok-q2.ensures in
    let fp = loaded _ _ _ c.in_ok-net.ensures in
    let fq = loaded _ _ _ c.in_ok-net-2.ensures in
    let u = not_loaded _ _ _ c.in_err-net-3.ensures in
    rw (told, u.1) (third_bad x c.in_ok-p.p sp c.in_ok-q.q sq c.in_ok-p2.p2 sp2 c.in_ok-q2.q2 sq2 _ fp _ fq u.0)

pub returns-in_err-net-4 : goal.returns-in_err-net-4
unfolding sent_by
returns-in_err-net-4 c =
    let told : ◌≡◌ {A = Result Paired Refusal} c.from_residual-in_err-net-4.result (Err c.in_err-net-4.field-0.0) = search rules in
    let x = sent_by c.args.x in
    let sp = steady _ _ c.in_ok-p.ensures in
    let sq = steady _ _ c.in_ok-q.ensures in
    let sp2 = steady _ _ c.in_ok-p2.ensures in
    let sq2 = steady _ _ c.in_ok-q2.ensures in
    let fp = loaded _ _ _ c.in_ok-net.ensures in
    let fq = loaded _ _ _ c.in_ok-net-2.ensures in
    let fp2 = loaded _ _ _ c.in_ok-net-3.ensures in
    let u = not_loaded _ _ _ c.in_err-net-4.ensures in
    rw (told, u.1) (fourth_bad x c.in_ok-p.p sp c.in_ok-q.q sq c.in_ok-p2.p2 sp2 c.in_ok-q2.q2 sq2 _ fp _ fq _ fp2 u.0)

pub returns : goal.returns
unfolding sent_by
returns c =
    let a_is : to_z w64 (of_z w64 c.args.x.a) ≡ c.args.x.a = search (rules, to_z-of_z) in
    let x = sent_by c.args.x in
    let sp = steady _ _ c.in_ok-p.ensures in
    let sq = steady _ _ c.in_ok-q.ensures in
    let sp2 = steady _ _ c.in_ok-p2.ensures in
    let sq2 = steady _ _ c.in_ok-q2.ensures in
    let fp = loaded _ _ _ c.in_ok-net.ensures in
    let fq = loaded _ _ _ c.in_ok-net-2.ensures in
    let fp2 = loaded _ _ _ c.in_ok-net-3.ensures in
    let fq2 = loaded _ _ _ c.in_ok-net-4.ensures in
    rw a_is (all_counted x c.in_ok-p.p sp c.in_ok-q.q sq c.in_ok-p2.p2 sp2 c.in_ok-q2.q2 sq2 _ fp _ fq _ fp2 _ fq2)
