-- `lent::read` meets its contract: the bytes are a file, and are copied but for the version. Assumes nothing.
use Rattle.std.proofs.Common.{◌≡◌, ap, sym, ◌∙◌, ◌++◌, ℕ, List, length, drop, take_all, arith, rules}
use Rattle.laws.specs.Written.{written_first}
use Rattle.paper.specs.Numbers.{number_in, number_of}
use Rattle.front.proofs.Answers.{told}
use Rattle.lent.proofs.Answers.{read_none, read_long, read_short, read_put}
use Rattle.lent.proofs.read.Goals as goal

pub returns-in_err-ok_or : goal.returns-in_err-ok_or
returns-in_err-ok_or c =
    let a = c.args in
    let f = told _ _ _ c.survey.ensures c.in_err-ok_or.ensures.value in
    let n : number_in c.from_residual.result ≡ number_of c.in_err-ok_or.field-0.0 = search rules in
    read_none a.file.now a.buffer.now _ (n ∙ ap number_of f.1) f.0

pub returns-then-buffer-file : goal.returns-then-buffer-file
returns-then-buffer-file c =
    let a = c.args in
    let f = told _ _ _ c.survey.ensures c.in_ok-ok_or.ensures.value in
    read_short a.file.now a.buffer.now f.0 f.1 c.if-buffer-file.true

pub bounds-buffer-4 : goal.bounds-buffer-4
bounds-buffer-4 c =
    let a = c.args in
    let f = told _ _ _ c.survey.ensures c.in_ok-ok_or.ensures.value in
    omega (arith, read_long a.file.now a.buffer.now f.0 f.1)

pub returns : goal.returns
returns c =
    let a = c.args in
    let f = told _ _ _ c.survey.ensures c.in_ok-ok_or.ensures.value in
    let n = length a.file.now in
    let put = c.copy.ensures.1 ∙ written_first a.buffer.now a.file.now ∙ ap (λ (xs : List ℕ). xs ++ drop n a.buffer.now) (sym (take_all n a.file.now (omega arith))) in
    read_put a.file.now a.buffer.now f.0 f.1 _ c.if-buffer-file.false put
