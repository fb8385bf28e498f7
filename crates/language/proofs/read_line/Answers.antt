-- `language::read_line` meets its contract: the tests of the code are those of the definition, and what is written is the text
-- of the only entry that the line can be. Assumes nothing.
use mathlib.Core.Path.{sym, ◌∙◌}
use borrow.Author.Tests.{eq-eqb}
use lib.ListN.{get_or}
use Rattle.wording.specs.Texts.{entry_text}
use Rattle.language.specs.Lines.{undo_text}
use Rattle.language.proofs.Said.{same_as, passed_empty, passed_comment, not_passed, says_passed, says_undo, says_entry, says_unknown}
use Rattle.language.proofs.read_line.Goals as goal
use Rattle.language.proofs.read_line.Goals.{then-is_empty-via-then-is_empty, then-is_empty-via-else-is_empty+then-s-eq35}

pub returns-then-is_empty : goal.returns-then-is_empty
returns-then-is_empty c =
    let s = c.args.s.now in
    elim c.then-is_empty.branch [
      | then-is_empty-via-then-is_empty w ↦ says_passed s (passed_empty s (sym c.is_empty.ensures ∙ w.if-is_empty.true))
      | then-is_empty-via-else-is_empty+then-s-eq35 w ↦ says_passed s (passed_comment s (eq-eqb (get_or s 0 0) 35 w.if-s-eq35.true))
    ]

pub returns-then-eq : goal.returns-then-eq
returns-then-eq c =
    let s = c.args.s.now in
    let undo = same_as s c.as_slice.result.now undo_text c.eq.result c.eq.ensures c.as_slice.ensures in
    says_undo s (not_passed s (sym c.is_empty.ensures ∙ c.if-is_empty.false) c.if-s-eq35.false) (sym undo ∙ c.if-eq.true)

pub returns-then-eq-2 : goal.returns-then-eq-2
returns-then-eq-2 c =
    let s = c.args.s.now in
    let undo = same_as s c.as_slice.result.now undo_text c.eq.result c.eq.ensures c.as_slice.ensures in
    let e = c.candidate-e in
    let t = same_as s c.as_bytes.result.now (entry_text e.result) c.eq-2.result c.eq-2.ensures (c.as_bytes.ensures.value ∙ c.deref.ensures.0 ∙ c.text_of.ensures) in
    says_entry s (not_passed s (sym c.is_empty.ensures ∙ c.if-is_empty.false) c.if-s-eq35.false) (sym undo ∙ c.if-eq.false) e.result e.ensures (sym t ∙ c.if-eq-2.true)

pub returns-else-eq-2 : goal.returns-else-eq-2
returns-else-eq-2 c =
    let s = c.args.s.now in
    let undo = same_as s c.as_slice.result.now undo_text c.eq.result c.eq.ensures c.as_slice.ensures in
    let e = c.candidate-e in
    let t = same_as s c.as_bytes.result.now (entry_text e.result) c.eq-2.result c.eq-2.ensures (c.as_bytes.ensures.value ∙ c.deref.ensures.0 ∙ c.text_of.ensures) in
    says_unknown s (not_passed s (sym c.is_empty.ensures ∙ c.if-is_empty.false) c.if-s-eq35.false) (sym undo ∙ c.if-eq.false) e.result e.ensures (sym t ∙ c.if-eq-2.false)
