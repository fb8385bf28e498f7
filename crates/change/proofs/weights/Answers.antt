-- `change::weights` meets its contract: each way out by the law of what holds there, and G and n each by one sum, of numbers that
-- are read back from their bits. Assumes nothing.
use Rattle.std.proofs.Common.{true, false, ◌≡◌, ◌≤◌, sym, ap, ◌∙◌, cond, pos, negsuc, ◌+ℤ◌, ◌≤ℤ◌, to_z, rules, arith}
use mir.Syntax.{w64}
use lib.Dec.{eqb}
use lib.IntN.{ℤ}
use Rattle.laws.specs.Z.{zs, rd, lt_z_not}
use Rattle.paper.specs.Units.{is_arm, between}
use Rattle.paper.specs.Record as paper
use Rattle.paper.proofs.Changes.{weight_range}
use Rattle.change.proofs.Changes.{inside, gain, part, gain_range, part_range, total_test, part_test, arm_bad, change_bad, total_bad, part_bad, all_fine, ranged}
use Rattle.change.proofs.Products.{sum_fits, sum_is, unsigned}
use Rattle.change.proofs.weights.Goals.{After-holds, After-half_grams-gain, After-counted}
use Rattle.change.proofs.weights.Goals as goal

arm_tested : (c : After-holds) → c.holds.result ≡ is_arm c.args.x.arm
arm_tested c = search rules

-- ---- what is added to G

added : (c : After-half_grams-gain) → c.half_grams-gain.result ≡ gain c.args.x
added c = search rules

gain_in : (c : After-half_grams-gain) → (negsuc 3999999 ≤ℤ c.half_grams-gain.result) × (c.half_grams-gain.result ≤ℤ pos 4000000)
gain_in c = rw (added c) (gain_range c.args.x (sym c.in_range.ensures ∙ c.if-not-in_range.false))

abbrev total_at : After-half_grams-gain → ℤ
total_at c = rd (to_z w64 c.args.b.total +ℤ rd c.half_grams-gain.result)

total_is : (c : After-half_grams-gain) → total_at c ≡ pos c.args.b.total +ℤ gain c.args.x
total_is c =
    let r = gain_in c in
    sum_is c.args.b.total c.half_grams-gain.result c.requires.most r.0 r.1 ∙ ap (λ z. pos c.args.b.total +ℤ z) (added c)

-- ---- what is added to n

counts : (c : After-counted) → c.counted.result ≡ cond (eqb c.args.x.flag 1) c.half_grams-gain.result (pos 0)
counts c = search rules

module _ (h : After-half_grams-gain) (n : ℤ) (e : n ≡ cond (eqb h.args.x.flag 1) h.half_grams-gain.result (pos 0)) where
  part_is : n ≡ part h.args.x
  part_is = rw (added h) at e

  part_in : (negsuc 3999999 ≤ℤ n) × (n ≤ℤ pos 4000000)
  part_in = rw part_is (part_range h.args.x (sym h.in_range.ensures ∙ h.if-not-in_range.false))

  part_most : h.args.b.nonlifting ≤ 4000000
  part_most = omega (arith, h.requires)

  nonlifting_is : rd (to_z w64 h.args.b.nonlifting +ℤ rd n) ≡ pos h.args.b.nonlifting +ℤ part h.args.x
  nonlifting_is = sum_is h.args.b.nonlifting n part_most part_in.0 part_in.1 ∙ ap (λ z. pos h.args.b.nonlifting +ℤ z) part_is

-- ---- 2, 6 and 3

pub returns-then-not-holds-clause-number : goal.returns-then-not-holds-clause-number
returns-then-not-holds-clause-number c =
    let arm = arm_tested (goal.at.returns-then-not-holds-clause-number c).After-holds in
    arm_bad c.args.b c.args.x (sym arm ∙ c.if-not-holds.true)

pub returns-then-not-in_range-clause-number : goal.returns-then-not-in_range-clause-number
returns-then-not-in_range-clause-number c =
    let arm = arm_tested (goal.at.returns-then-not-in_range-clause-number c).After-holds in
    change_bad c.args.b c.args.x (sym arm ∙ c.if-not-holds.false) (sym c.in_range.ensures ∙ c.if-not-in_range.true)

pub half_grams-gain-requires : goal.half_grams-gain-requires
half_grams-gain-requires c =
    let range = weight_range c.args.x (sym c.in_range.ensures ∙ c.if-not-in_range.false) in
    search rules

pub overflow_add-total : goal.overflow_add-total
overflow_add-total c =
    let r = gain_in (goal.at.overflow_add-total c).After-half_grams-gain in
    sum_fits c.args.b.total c.half_grams-gain.result c.requires.most r.0 r.1

pub returns-then-total-lt-HALVES_LEAST-clause-number : goal.returns-then-total-lt-HALVES_LEAST-clause-number
returns-then-total-lt-HALVES_LEAST-clause-number c =
    let arm = arm_tested (goal.at.returns-then-total-lt-HALVES_LEAST-clause-number c).After-holds in
    let total = total_is (goal.at.returns-then-total-lt-HALVES_LEAST-clause-number c).After-half_grams-gain in
    let tested : between (pos 2) (pos 4000000) (rd (to_z w64 c.args.b.total +ℤ rd c.half_grams-gain.result)) ≡ false = search (rules, lt_z_not) in
    total_bad c.args.b c.args.x (sym arm ∙ c.if-not-holds.false) (sym c.in_range.ensures ∙ c.if-not-in_range.false) (sym (total_test c.args.b c.args.x _ total) ∙ tested)

pub overflow_add-part : goal.overflow_add-part
overflow_add-part c =
    let h = (goal.at.overflow_add-part c).After-half_grams-gain in
    let e = counts (goal.at.overflow_add-part c).After-counted in
    let r = part_in h c.counted.result e in
    sum_fits c.args.b.nonlifting c.counted.result (part_most h c.counted.result e) r.0 r.1

pub returns-then-part-lt0-clause-number : goal.returns-then-part-lt0-clause-number
returns-then-part-lt0-clause-number c =
    let at = goal.at.returns-then-part-lt0-clause-number c in
    let h = at.After-half_grams-gain in
    let arm = arm_tested at.After-holds in
    let total = total_is h in
    let n = nonlifting_is h c.counted.result (counts at.After-counted) in
    let t = rd (to_z w64 c.args.b.total +ℤ rd c.half_grams-gain.result) in
    let p = rd (to_z w64 c.args.b.nonlifting +ℤ rd c.counted.result) in
    let tested : between (pos 2) (pos 4000000) t ≡ true = inside (pos 2) (pos 4000000) t c.if-total-lt-HALVES_LEAST.false c.if-total-gt-HALVES_MOST.false in
    let parted : between (pos 0) t p ≡ false = search (rules, lt_z_not) in
    part_bad c.args.b c.args.x (sym arm ∙ c.if-not-holds.false) (sym c.in_range.ensures ∙ c.if-not-in_range.false) (sym (total_test c.args.b c.args.x _ total) ∙ tested) (sym (part_test c.args.b c.args.x _ _ total n) ∙ parted)

pub returns-clause-number : goal.returns-clause-number
returns-clause-number c =
    let at = goal.at.returns-clause-number c in
    let h = at.After-half_grams-gain in
    let arm = arm_tested at.After-holds in
    let total = total_is h in
    let n = nonlifting_is h c.counted.result (counts at.After-counted) in
    let t = rd (to_z w64 c.args.b.total +ℤ rd c.half_grams-gain.result) in
    let p = rd (to_z w64 c.args.b.nonlifting +ℤ rd c.counted.result) in
    let tested : between (pos 2) (pos 4000000) t ≡ true = inside (pos 2) (pos 4000000) t c.if-total-lt-HALVES_LEAST.false c.if-total-gt-HALVES_MOST.false in
    let parted : between (pos 0) t p ≡ true = inside (pos 0) t p c.if-part-lt0.false c.if-total-part.false in
    all_fine c.args.b c.args.x (sym arm ∙ c.if-not-holds.false) (sym c.in_range.ensures ∙ c.if-not-in_range.false) (sym (total_test c.args.b c.args.x _ total) ∙ tested) (sym (part_test c.args.b c.args.x _ _ total n) ∙ parted)

pub returns-clause-accepted : goal.returns-clause-accepted
unfolding paper.changed paper.with
returns-clause-accepted c =
    let at = goal.at.returns-clause-accepted c in
    let h = at.After-half_grams-gain in
    let total = total_at h in
    let left = rd (to_z w64 c.args.b.nonlifting +ℤ rd c.counted.result) in
    let whole = ranged {lo = pos 2} {hi = pos 4000000} {z = total} (inside (pos 2) (pos 4000000) total c.if-total-lt-HALVES_LEAST.false c.if-total-gt-HALVES_MOST.false) in
    let parted = ranged {lo = pos 0} {hi = total} {z = left} (inside (pos 0) total left c.if-part-lt0.false c.if-total-part.false) in (
      unsigned total (omega (arith, zs, whole.0)) ∙ total_is h,
      unsigned left parted.0 ∙ nonlifting_is h c.counted.result (counts at.After-counted),
    )
