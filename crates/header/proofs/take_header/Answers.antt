-- `header::take_header` meets its contract: its tests are those of the header, in its order. Assumes nothing.
use Rattle.std.proofs.Common.{sym, ap, ◌∙◌, arith}
use Rattle.paper.specs.File.{number_of}
use Rattle.header.proofs.Judging.{too_few, wrong_length, wrong_version, right, decoded, not_decoded, version_there, count_there, entries_there}
use Rattle.header.proofs.take_header.Goals as goal

pub returns-in_err-length : goal.returns-in_err-length
returns-in_err-length c =
    rw c.from_residual.ensures (too_few c.args.s.now (omega (arith, c.in_err-length.ensures.cases)))

pub returns-in_default : goal.returns-in_default
returns-in_default c =
    too_few c.args.s.now (omega (arith, c.in_ok-length.ensures.cases, c.in_default.len_below))

pub returns-then-number_of-body : goal.returns-then-number_of-body
returns-then-number_of-body c =
    let xs = c.args.s.now in
    let cut = c.in_ok-length.ensures.cases in
    let number = c.number_of.ensures ∙ ap number_of cut.0 in
    wrong_length xs (λ e. c.if-number_of-body.true (omega (arith, number, cut.2)))

pub returns-in_err-ok : goal.returns-in_err-ok
returns-in_err-ok c =
    let xs = c.args.s.now in
    let cut = c.in_ok-length.ensures.cases in
    let there = version_there xs _ cut.1 in
    let none = not_decoded _ _ c.try_from.ensures c.in_err-ok.ensures.value in
    rw c.from_residual-in_err-ok.ensures (wrong_version xs (λ v e. none v (e ∙ sym there)))

pub returns : goal.returns
returns c =
    let xs = c.args.s.now in
    let cut = c.in_ok-length.ensures.cases in
    let number = c.number_of.ensures ∙ ap number_of cut.0 in
    let version = decoded _ _ _ c.try_from.ensures c.in_ok-ok.ensures.value ∙ version_there xs _ cut.1 in (
      right xs (omega (arith, cut.2, c.in-len2-up.len_at_least)) (omega (arith, number, cut.2, c.if-number_of-body.false)) _ version,
      version,
      c.from.ensures ∙ count_there xs _ cut.1,
      entries_there xs _ cut.1,
    )
