-- `equipped::found` meets its contract, as the survey of a file does. Assumes nothing.
use Rattle.std.proofs.Common.{[], ◌∷◌, ◌++◌, ap, ◌∙◌, arith}
use Rattle.paper.specs.Numbers.{code_of}
use Rattle.format.specs.Numbers.{bytes_at}
use Rattle.stored.proofs.Headers.{bad_header, begun}
use Rattle.stored.proofs.Reading.{left_over, all_passed, begins, coming, ended}
use Rattle.fittings.proofs.Notes.{tells_none}
use Rattle.judge.proofs.Weighed.{weighed_by}
use Rattle.equipped.proofs.found.Goals as goal

pub returns-in_err-header : goal.returns-in_err-header
returns-in_err-header c =
    let bytes = bytes_at c.args.s.now (λ i h. (c.type_inv.s i).fits) in
    rw c.from_residual.ensures (bad_header c.args.s.now bytes c.in_err-header.ensures)

pub loop-init : goal.loop-init
loop-init c =
    let bytes = bytes_at c.args.s.now (λ i h. (c.type_inv.s i).fits) in
    let kinds = ap code_of c.new-entries.ensures.1 ∙ c.last_kind.ensures in
    let w = begun c.args.s.now c.in_ok-header.header c.in_ok-header.rest c.new-entries.result _ bytes c.in_ok-header.ensures c.new-entries.ensures.0 kinds c.new-standing.ensures in
    ([], begins c.args.s.now c.in_ok-header.header.count c.new-entries.result c.new-standing.result w, tells_none c.new-fittings.result c.new-fittings.ensures)

pub returns-in_err-pass : goal.returns-in_err-pass
returns-in_err-pass c =
    let s = c.args.s.now in
    let l = c.loop in
    let es = l.invariant.0 in
    let w = coming s es c.in_ok-header.header.count l.counter l.entries l.standing c.loop-test.true l.invariant.1 in
    rw c.from_residual-in_err-pass.ensures (c.in_err-pass.ensures s es _ w)

-- one entry more is passed, and it is accepted
pub note-requires : goal.note-requires
note-requires c =
    let s = c.args.s.now in
    let l = c.loop in
    let es = l.invariant.0 in
    let w = coming s es c.in_ok-header.header.count l.counter l.entries l.standing c.loop-test.true l.invariant.1 in
    (es, l.invariant.2, (c.in_ok-pass.ensures s es _ w).fine)

pub loop-preserved : goal.loop-preserved
loop-preserved c =
    let s = c.args.s.now in
    let l = c.loop in
    let es = l.invariant.0 in
    let w = coming s es c.in_ok-header.header.count l.counter l.entries l.standing c.loop-test.true l.invariant.1 in
    let more = c.in_ok-pass.ensures s es _ w in
    (es ++ c.in_ok-pass.field-0 ∷ [], more, c.note.ensures es l.invariant.2 more.fine)

pub returns-then-left-gt0 : goal.returns-then-left-gt0
returns-then-left-gt0 c =
    let s = c.args.s.now in
    let l = c.loop in
    left_over s l.invariant.0 _ _ _ (ended s l.invariant.0 c.in_ok-header.header.count l.counter l.entries l.standing c.loop-test.false l.invariant.1) (omega arith)

pub returns : goal.returns
returns c =
    let s = c.args.s.now in
    let l = c.loop in
    let es = l.invariant.0 in
    let w = ended s es c.in_ok-header.header.count l.counter l.entries l.standing c.loop-test.false l.invariant.1 in
    (es, all_passed s es _ _ _ w (omega arith), record { weighed = c.is_some.ensures ∙ weighed_by es l.standing w.stands; fittings = l.invariant.2 })
