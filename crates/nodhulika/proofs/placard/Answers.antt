-- `nodhulika::placard` meets its contract: what `front::placard` answers, and its counts in bytes. Assumes nothing.
use Rattle.std.proofs.Common.{◌≡◌, refl, arith, rules}
use Rattle.paper.specs.Numbers.{number_in, number_of}
use Rattle.nodhulika.proofs.Into.{answered, counts_short, placard_refused, placard_put}
use Rattle.nodhulika.proofs.placard.Goals as goal

pub returns-in_err-placard : goal.returns-in_err-placard
returns-in_err-placard c =
    let a = c.args in
    let told : number_in c.from_residual.result ≡ number_of c.in_err-placard.field-0.0 = search rules in
    counts_short _ a.out.now a.answer.now _ _ _ told c.if-answer-lt-ANSWER.true c.in_err-placard.ensures

pub returns-then-answer-lt-ANSWER : goal.returns-then-answer-lt-ANSWER
returns-then-answer-lt-ANSWER c =
    let a = c.args in
    counts_short _ a.out.now a.answer.now _ _ _ refl c.if-answer-lt-ANSWER.true c.in_ok-placard.ensures

pub returns-in_err-a : goal.returns-in_err-a
returns-in_err-a c =
    let a = c.args in
    let told : number_in c.from_residual-in_err-a.result ≡ number_of c.in_err-a.field-0.0 = search rules in
    placard_refused _ a.out.now a.answer.now _ (omega arith) _ _ told c.in_err-a.ensures

pub returns : goal.returns
returns c =
    let a = c.args in
    placard_put _ a.out.now a.answer.now _ (omega arith) _ _ c.in_ok-a.ensures (answered a.answer.now _ _ _ _ _ _ _ refl refl refl c.put_words.ensures)
