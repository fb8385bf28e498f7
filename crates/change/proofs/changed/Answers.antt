-- `change::changed` meets its contract: G and n are those that `weights` gives, and M is one sum, of a product that is read back
-- from its bits. Assumes nothing.
use Rattle.std.proofs.Common.{◌≡◌, sym, ◌∙◌, pos, ◌+ℤ◌, ◌*ℤ◌, SFits, rules, arith}
use Rattle.std.proofs.Math.Option.{some}
use Rattle.std.proofs.lemmas.Int.{to_z-of_z}
use mir.Syntax.{w64}
use Rattle.laws.specs.Z.{zs, rd}
use Rattle.laws.specs.Sides.{sides_of, sum_of, Below}
use Rattle.paper.specs.declared.Change.{Change}
use Rattle.paper.specs.Record as paper
use Rattle.paper.specs.Refusals.{change_faults, first_number}
use Rattle.paper.proofs.Changes.{weight_range}
use Rattle.paper.proofs.Units.{arm_range}
use Rattle.balance.specs.declared.Balance.{Balance}
use Rattle.balance.specs.Balance.{an_entry, plain, Ranged}
use Rattle.change.proofs.Changes.{gain, part, gain_range, arm_fine, change_fine, total_range, part-within, after_is}
use Rattle.change.proofs.Products.{small, small_fits}
use Rattle.change.proofs.changed.Goals.{After-half_grams-gain}
use Rattle.change.proofs.changed.Goals as goal

-- ---- a change that gets no number

module _ (b : Balance) (x : Change) (clear : first_number (change_faults (some (plain b)) x) ≡ 0) where
  product_small : Below an_entry (sides_of (gain x *ℤ x.arm))
  product_small =
      let g = gain_range x (change_fine b x clear) in
      let a = arm_range x.arm (arm_fine b x clear) in
      small (gain x) x.arm g.0 g.1 a.0 a.1

  ranged_after : (r : Balance) → pos r.total ≡ pos b.total +ℤ gain x → pos r.nonlifting ≡ pos b.nonlifting +ℤ part x → Ranged r
  ranged_after r et en =
      let g = total_range b x clear in
      let p = part-within b x clear in
      record { least = omega (arith, zs, et, g.0); most = omega (arith, zs, et, g.1); part = omega (arith, zs, et, en, p.1) }

-- ---- what is added to M

module _ (h : After-half_grams-gain) where
  accepted : first_number (change_faults (some (plain h.args.b)) h.args.x) ≡ 0
  accepted = sym h.in_ok-total.ensures.number

  added : h.half_grams-gain.result ≡ gain h.args.x
  added = search rules

  product_is : rd h.half_grams-gain.result *ℤ rd h.args.x.arm ≡ gain h.args.x *ℤ h.args.x.arm
  product_is =
      let arm : SFits w64 h.args.x.arm = search rules in
      rw (to_z-of_z w64 h.half_grams-gain.result (record { sfits = h.half_grams-gain.type_inv }), added, to_z-of_z w64 h.args.x.arm arm)

  product_fits : SFits w64 (rd h.half_grams-gain.result *ℤ rd h.args.x.arm)
  product_fits = rw product_is (small_fits (gain h.args.x *ℤ h.args.x.arm) (product_small h.args.b h.args.x accepted))

  sides : rd (rd h.half_grams-gain.result *ℤ rd h.args.x.arm) ≡ gain h.args.x *ℤ h.args.x.arm
  sides = to_z-of_z w64 _ product_fits ∙ product_is

pub half_grams-gain-requires : goal.half_grams-gain-requires
half_grams-gain-requires c =
    let range = weight_range c.args.x (change_fine c.args.b c.args.x (sym c.in_ok-total.ensures.number)) in
    search rules

pub overflow_mul-gain : goal.overflow_mul-gain
overflow_mul-gain c = product_fits (goal.at.overflow_mul-gain c).After-half_grams-gain

pub returns-clause-accepted : goal.returns-clause-accepted
unfolding paper.changed paper.with
returns-clause-accepted c =
    let h = (goal.at.returns-clause-accepted c).After-half_grams-gain in
    let b = c.args.b in
    let x = c.args.x in
    let r : Balance = record { total = c.in_ok-total.total; moment = c.add.result; nonlifting = c.in_ok-total.nonlifting } in
    let w = c.in_ok-total.ensures.accepted in
    let p = product_small b x (accepted h) in
    let moment : r.moment ≡ sum_of b.moment (sides_of (gain x *ℤ x.arm)) = c.add.ensures ∙ rw (c.from-more.ensures, sides h) in (
      after_is b r x w.0 w.1 moment,
      λ k f. record {
        ranged = ranged_after b x (accepted h) r w.0 w.1;
        moment = rw moment (record { up = omega (arith, f.moment.up, p.up); down = omega (arith, f.moment.down, p.down) });
      },
    )

pub returns-clause-bounds : goal.returns-clause-bounds
unfolding paper.changed paper.with
returns-clause-bounds c =
    let h = (goal.at.returns-clause-bounds c).After-half_grams-gain in
    let b = c.args.b in
    let x = c.args.x in
    let r : Balance = record { total = c.in_ok-total.total; moment = c.add.result; nonlifting = c.in_ok-total.nonlifting } in
    let w = c.in_ok-total.ensures.accepted in
    let p = product_small b x (accepted h) in
    let moment : r.moment ≡ sum_of b.moment (sides_of (gain x *ℤ x.arm)) = c.add.ensures ∙ rw (c.from-more.ensures, sides h) in
    (ranged_after b x (accepted h) r w.0 w.1, rw moment (omega (arith, p.up)), rw moment (omega (arith, p.down)))
