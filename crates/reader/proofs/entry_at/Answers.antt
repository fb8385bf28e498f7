-- `reader::entry_at` meets its contract: what the reader gives at the place, of kinds up to the last. Assumes nothing.
use Rattle.std.proofs.Common.{◌≡◌, ap, ◌∙◌, drop, List, ℕ, arith}
use Rattle.std.specs.Borrow.{Bor}
use Rattle.paper.specs.Numbers.{code_of}
use Rattle.format.specs.Numbers.{bytes_at}
use Rattle.reader.specs.Reading.{unread, last_of}
use Rattle.reader.proofs.Places.{none_at, one_at, left_at}
use Rattle.reader.proofs.entry_at.Goals as goal

pub returns-in_err-entry : goal.returns-in_err-entry
returns-in_err-entry c =
    let r = c.moved-reader.result in
    let k : code_of (last_of r) ≡ 5 = ap code_of (c.moved-reader.ensures.1 ∙ c.new.ensures.1) in
    let x : (unread r).now ≡ drop c.args.at c.args.s.now = c.moved-reader.ensures.0 ∙ ap (λ (b : Bor (List ℕ)). drop c.args.at b.now) c.new.ensures.0 in
    c.from_residual.ensures ∙ none_at c.args.s.now c.args.at _ x (rw k at c.in_err-entry.ensures.steps.0.0)

pub overflow_sub-result : goal.overflow_sub-result
overflow_sub-result c =
    let r = c.moved-reader.result in
    let k : code_of (last_of r) ≡ 5 = ap code_of (c.moved-reader.ensures.1 ∙ c.new.ensures.1) in
    let x : (unread r).now ≡ drop c.args.at c.args.s.now = c.moved-reader.ensures.0 ∙ ap (λ (b : Bor (List ℕ)). drop c.args.at b.now) c.new.ensures.0 in
    let bytes = bytes_at c.args.s.now (λ i h. (c.type_inv.s i).fits) in
    let left = left_at c.args.s.now c.args.at _ x _ _ (rw k at c.in_ok-entry.ensures.steps.0) bytes in
    omega (arith, left, c.left.ensures)

pub returns : goal.returns
returns c =
    let r = c.moved-reader.result in
    let k : code_of (last_of r) ≡ 5 = ap code_of (c.moved-reader.ensures.1 ∙ c.new.ensures.1) in
    let x : (unread r).now ≡ drop c.args.at c.args.s.now = c.moved-reader.ensures.0 ∙ ap (λ (b : Bor (List ℕ)). drop c.args.at b.now) c.new.ensures.0 in
    one_at c.args.s.now c.args.at _ x _ _ (rw k at c.in_ok-entry.ensures.steps.0) c.left.result c.left.ensures
