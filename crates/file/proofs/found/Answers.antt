-- `file::found` meets its contract. The loop's invariant: the first i entries are in the record, and the reader stands
-- behind them (`ReadTo`). Assumes nothing.
use Rattle.std.proofs.Common.{◌≡◌, ℕ, ◌+◌, ◌-◌, ap, ◌∙◌, subst, arith}
use Rattle.paper.specs.Numbers.{code_of}
use Rattle.format.specs.Numbers.{bytes_at}
use Rattle.stored.specs.Walks.{Walked}
use Rattle.stored.proofs.Headers as headers
use Rattle.stored.proofs.Reading.{left_over, all_passed}
use Rattle.file.proofs.Reading.{begun, slot_left, one_more, no_file, a_file}
use Rattle.file.proofs.found.Goals as goal

pub returns-in_err-header : goal.returns-in_err-header
returns-in_err-header c =
    let bytes = bytes_at c.args.s.now (λ i h. (c.type_inv.s i).fits) in
    c.from_residual.ensures ∙ no_file _ (headers.bad_header c.args.s.now bytes c.in_err-header.ensures)

pub loop-init : goal.loop-init
loop-init c =
    let s = c.args.s.now in
    let bytes = bytes_at s (λ i h. (c.type_inv.s i).fits) in
    let all : c.in_ok-header.header.count ≡ c.in_ok-header.header.count - 0 = omega arith in
    let kinds = ap code_of c.new-entries.ensures.1 ∙ c.last_kind.ensures in
    let w = headers.begun s c.in_ok-header.header c.in_ok-header.rest c.new-entries.result _ bytes c.in_ok-header.ensures c.new-entries.ensures.0 kinds c.new-standing.ensures in
    begun s _ _ _ _ (subst (λ (n : ℕ). Walked s _ n c.new-entries.result c.new-standing.result) all w) c.fresh-log.ensures

pub returns-in_err-pass : goal.returns-in_err-pass
returns-in_err-pass c =
    let s = c.args.s.now in
    let l = c.loop in
    let x = l.invariant in
    let left : c.in_ok-header.header.count - l.counter ≡ c.in_ok-header.header.count - (l.counter + 1) + 1 = omega arith in
    let w = subst (λ (n : ℕ). Walked s x.entries n l.entries l.standing) left x.walked in
    c.from_residual-in_err-pass.ensures ∙ no_file _ (c.in_err-pass.ensures s x.entries _ w)

pub push-requires : goal.push-requires
push-requires c =
    let s = c.args.s.now in
    let l = c.loop in
    let x = l.invariant in
    let left : c.in_ok-header.header.count - l.counter ≡ c.in_ok-header.header.count - (l.counter + 1) + 1 = omega arith in
    let w = c.in_ok-pass.ensures s x.entries _ (subst (λ (n : ℕ). Walked s x.entries n l.entries l.standing) left x.walked) in
    slot_left s l.counter _ x.entries c.in_ok-pass.field-0 c.pass.new.entries c.pass.new.standing x.many w l.log x.held

pub loop-preserved : goal.loop-preserved
loop-preserved c =
    let s = c.args.s.now in
    let l = c.loop in
    let x = l.invariant in
    let left : c.in_ok-header.header.count - l.counter ≡ c.in_ok-header.header.count - (l.counter + 1) + 1 = omega arith in
    let w = c.in_ok-pass.ensures s x.entries _ (subst (λ (n : ℕ). Walked s x.entries n l.entries l.standing) left x.walked) in
    one_more s l.counter _ x.entries c.in_ok-pass.field-0 c.pass.new.entries c.pass.new.standing x.many w l.log _ x.held c.push.ensures

pub returns-then-left-gt0 : goal.returns-then-left-gt0
returns-then-left-gt0 c =
    let s = c.args.s.now in
    let l = c.loop in
    let x = l.invariant in
    let all : c.in_ok-header.header.count - l.counter ≡ 0 = omega arith in
    no_file _ (left_over s x.entries _ _ _ (subst (λ (n : ℕ). Walked s x.entries n l.entries l.standing) all x.walked) (omega arith))

pub returns : goal.returns
returns c =
    let s = c.args.s.now in
    let l = c.loop in
    let x = l.invariant in
    let all : c.in_ok-header.header.count - l.counter ≡ 0 = omega arith in
    a_file l.log _ x.entries (all_passed s x.entries _ _ _ (subst (λ (n : ℕ). Walked s x.entries n l.entries l.standing) all x.walked) (omega arith)) x.held
