-- `columns::answer` meets its contract: no weighing, a column too short, or each of them filled. Assumes nothing.
use Rattle.std.proofs.Common.{sym, ◌∙◌, inl, inr, arith}
use Rattle.paper.specs.Answers.{equipment_given}
use Rattle.columns.proofs.Answers.{unweighed, too_short, long_enough}
use Rattle.columns.proofs.answer.Goals as goal

pub returns-then-not-weighed : goal.returns-then-not-weighed
returns-then-not-weighed c es w k =
    unweighed es c.args.items.now k c.args.arms.now c.args.weights.now c.args.nonlifting.now (sym c.if-not-weighed.true ∙ w)

pub returns-then-arms-n : goal.returns-then-arms-n
returns-then-arms-n c es w k =
    let short = too_short es c.args.items.now k c.args.arms.now c.args.weights.now c.args.nonlifting.now (sym c.if-not-weighed.false ∙ w) in
    elim c.then-arms-n.either [
      | inl h ↦ short (inl h)
      | inr (inl h) ↦ short (inr (inl h.1))
      | inr (inr h) ↦ short (inr (inr h.2))
    ]

pub returns : goal.returns
unfolding equipment_given
returns c es w k =
    rw (c.put.ensures.arms, c.put.ensures.weights, c.put.ensures.nonlifting)
    (long_enough es c.args.items.now k c.args.arms.now c.args.weights.now c.args.nonlifting.now (sym c.if-not-weighed.false ∙ w) (omega (arith, c.if-arms-n.false)) (omega (arith, c.if-weights-n.false)) (omega (arith, c.if-nonlifting-n.false)))
