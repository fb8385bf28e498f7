-- `stored::survey` meets its contract. The loop's invariant: as many entries are passed as it went round, and where the last of
-- them begins is at hand. Assumes nothing.
use Rattle.std.proofs.Common.{◌+◌, [], ◌∷◌, ◌++◌, length, refl, ap, ◌∙◌, arith}
use mathlib.Core.List.{List}
use Rattle.laws.specs.Lists.{length_more}
use Rattle.paper.specs.declared.Entry.{Entry}
use Rattle.paper.specs.Numbers.{code_of}
use Rattle.paper.proofs.Lists.{without_more}
use Rattle.format.specs.Numbers.{bytes_at}
use Rattle.stored.specs.Found.{bytes_in}
use Rattle.stored.proofs.Headers.{bad_header, too_many, begun}
use Rattle.stored.proofs.Reading.{left_over, all_passed, begins, coming, ended}
use Rattle.stored.proofs.survey.Goals as goal

pub returns-in_err-header : goal.returns-in_err-header
returns-in_err-header c =
    let bytes = bytes_at c.args.s.now (λ i h. (c.type_inv.s i).fits) in
    rw c.from_residual.ensures (bad_header c.args.s.now bytes c.in_err-header.ensures)

pub returns-then-header-gt-CAPACITY : goal.returns-then-header-gt-CAPACITY
returns-then-header-gt-CAPACITY c =
    let bytes = bytes_at c.args.s.now (λ i h. (c.type_inv.s i).fits) in
    let h = c.in_ok-header.ensures in
    too_many c.args.s.now bytes h.0 (omega (arith, h.2, c.if-header-gt-CAPACITY.true))

pub loop-init : goal.loop-init
loop-init c =
    let bytes = bytes_at c.args.s.now (λ i h. (c.type_inv.s i).fits) in
    let kinds = ap code_of c.new-entries.ensures.1 ∙ c.last_kind.ensures in
    let w = begun c.args.s.now c.in_ok-header.header c.in_ok-header.rest c.new-entries.result _ bytes c.in_ok-header.ensures c.new-entries.ensures.0 kinds c.new-standing.ensures in
    ([], begins c.args.s.now c.in_ok-header.header.count c.new-entries.result c.new-standing.result w, refl)

pub returns-in_err-pass : goal.returns-in_err-pass
returns-in_err-pass c =
    let s = c.args.s.now in
    let l = c.loop in
    let es = l.invariant.0 in
    let w = coming s es c.in_ok-header.header.count l.counter l.entries l.standing c.loop-test.true l.invariant.1 in
    rw c.from_residual-in_err-pass.ensures (c.in_err-pass.ensures s es _ w)

pub loop-preserved : goal.loop-preserved
loop-preserved c =
    let s = c.args.s.now in
    let l = c.loop in
    let es = l.invariant.0 in
    let e = c.in_ok-pass.field-0 in
    let w = coming s es c.in_ok-header.header.count l.counter l.entries l.standing c.loop-test.true l.invariant.1 in
    let last = ap (λ (fs : List Entry). 6 + length (bytes_in fs)) (without_more es e) in (
      es ++ e ∷ [],
      c.in_ok-pass.ensures s es _ w,
      (omega (arith, length_more es e), omega (arith, l.invariant.1.place, last)),
    )

pub returns-then-left-gt0 : goal.returns-then-left-gt0
returns-then-left-gt0 c =
    let s = c.args.s.now in
    let l = c.loop in
    left_over s l.invariant.0 _ _ _ (ended s l.invariant.0 c.in_ok-header.header.count l.counter l.entries l.standing c.loop-test.false l.invariant.1) (omega arith)

pub returns : goal.returns
returns c =
    let s = c.args.s.now in
    let l = c.loop in
    let es = l.invariant.0 in
    let w = ended s es c.in_ok-header.header.count l.counter l.entries l.standing c.loop-test.false l.invariant.1 in
    (es, all_passed s es _ _ _ w (omega arith), record { stands = w.stands; last = l.invariant.2; end = omega (arith, w.place) })
