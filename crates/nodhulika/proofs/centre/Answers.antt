-- `nodhulika::centre` meets its contract: what `front::centre` answers, and its numbers in bytes. Assumes nothing.
use mir.Facts.{to_z-of_z}
use Rattle.std.proofs.Common.{◌≡◌, refl, sym, arith, rules, pos}
use Rattle.paper.specs.Numbers.{number_in, number_of}
use Rattle.paper.specs.File.{complement}
use Rattle.nodhulika.proofs.Into.{answered, centre_refused, centre_short, centre_put}
use Rattle.nodhulika.proofs.centre.Goals as goal

pub returns-in_err-c : goal.returns-in_err-c
returns-in_err-c c =
    let told : number_in c.from_residual.result ≡ number_of c.in_err-c.field-0.0 = search rules in
    centre_refused _ c.args.answer.now _ _ told (sym c.in_err-c.ensures)

pub returns-then-answer-lt-ANSWER : goal.returns-then-answer-lt-ANSWER
returns-then-answer-lt-ANSWER c =
    centre_short _ c.args.answer.now _ (sym c.in_ok-c.ensures) c.if-answer-lt-ANSWER.true

pub returns : goal.returns
returns c =
    let answer = c.args.answer.now in
    let k = c.in_ok-c.c in
    let x : c.long_of.result ≡ complement 8 k.moment = search (rules, to_z-of_z) in
    let y : c.long_of-2.result ≡ complement 8 k.centre = search (rules, to_z-of_z) in
    let put = answered answer _ (pos k.total) k.moment k.centre _ _ _ refl x y c.put_words.ensures in
    centre_put _ answer k (sym c.in_ok-c.ensures) _ (omega arith) put
