-- `page::put_rows` meets its contract. The loop's invariant: the rows beside the first j rear loads are put, and their blank
-- ones counted. Assumes nothing.
use mathlib.Core.Path.{◌≡◌, refl, sym, ap, ◌∙◌}
use mathlib.Core.List.{List}
use Prim.Native.Nat.{ℕ, ◌+◌, ◌*◌, ◌≤◌, ◌<◌}
use native.Mathlib.Nat.{zero-mul}
use native.Mathlib.Omega.{arith}
use lib.ListN.{length}
use Rattle.std.proofs.lemmas.List.{length-take-le}
use Rattle.laws.specs.Written.{written, part_long}
use Rattle.paper.specs.Rows.{row_count}
use Rattle.sheet.proofs.Accepted.{accepted-sheet}
use Rattle.balance.specs.Balance.{plain}
use Rattle.seat.specs.declared.InForce.{InForce}
use Rattle.group.specs.Numbered.{rears, waters, lines_to, blanks_to}
use Rattle.group.proofs.Buffer.{group_room, waters_few}
use Rattle.page.proofs.Whole.{none_put, none_blank, group_more, all-put, all_blank}
use Rattle.page.proofs.put_rows.Goals as goal

pub loads-rears-requires : goal.loads-rears-requires
loads-rears-requires c =
    let x = c.args.force.now in
    let a = accepted-sheet x.sheet x.accepted in
    (a.steps.rear.0, omega (arith, a.ranges.rear))

pub loads-waters-requires : goal.loads-waters-requires
loads-waters-requires c =
    let x = c.args.force.now in
    let a = accepted-sheet x.sheet x.accepted in
    (a.steps.water.0, omega (arith, a.ranges.water))

pub slice_bounds-room-end : goal.slice_bounds-room-end
slice_bounds-room-end c = waters_few c.args.force.now _ c.loads-waters.ensures.0

pub slice_bounds-fields-end : goal.slice_bounds-fields-end
slice_bounds-fields-end c =
    sym (length-take-le c.loads-waters.result _ (waters_few c.args.force.now _ c.loads-waters.ensures.0))

pub put_waters-requires : goal.put_waters-requires
put_waters-requires c =
    length-take-le c.loads-waters.result _ (waters_few c.args.force.now _ c.loads-waters.ensures.0) ∙ c.loads-waters.ensures.0

pub loop-j-init : goal.loop-j-init
loop-j-init c =
    let a = c.args in
    let f = c.new-terms.result.front.arms.force in
    let z : 0 * c.loads-waters.result ≡ 0 = zero-mul c.loads-waters.result in
    (omega arith, refl, none_blank f.sheet f.seat (plain a.b) ∙ ap (blanks_to f.sheet f.seat (plain a.b)) (sym z), none_put f.sheet f.seat (plain a.b) a.out.now ∙ ap (λ (i : ℕ). written a.out.now 0 (lines_to f.sheet f.seat (plain a.b) i)) (sym z))

-- the rows beside a rear load have room behind those before them
group_in : (x : InForce) (n j : ℕ) (lent out : List ℕ) → n ≡ waters x.sheet → j < rears x.sheet → 36 * row_count x.sheet ≤ length lent → length out ≡ length lent → 36 * (j * n) + 36 * n ≤ length out
group_in x n j lent out e h room long = omega (arith, group_room x.sheet n e j h, room, long)

pub overflow_mul-j : goal.overflow_mul-j
overflow_mul-j c =
    let x = c.args.force.now in
    omega (arith, group_room x.sheet c.loads-waters.result c.loads-waters.ensures.0 c.loop-j.j (omega (arith, c.loop-j-test.true, c.loads-rears.ensures.0)), (accepted-sheet x.sheet x.accepted).steps.rows)

pub slice_bounds-put_group-count : goal.slice_bounds-put_group-count
slice_bounds-put_group-count c =
    let x = c.args.force.now in
    omega (arith, group_in x c.loads-waters.result c.loop-j.j c.args.out.now c.loop-j.out c.loads-waters.ensures.0 (omega (arith, c.loop-j-test.true, c.loads-rears.ensures.0)) c.requires.1 c.loop-j.invariant.1)

pub slice_bounds-put_group-start : goal.slice_bounds-put_group-start
slice_bounds-put_group-start c =
    let x = c.args.force.now in
    omega (arith, group_in x c.loads-waters.result c.loop-j.j c.args.out.now c.loop-j.out c.loads-waters.ensures.0 (omega (arith, c.loop-j-test.true, c.loads-rears.ensures.0)) c.requires.1 c.loop-j.invariant.1)

pub put_group-none-requires : goal.put_group-none-requires
put_group-none-requires c =
    let x = c.args.force.now in
    let n = c.loads-waters.result in
    let last : c.loop-j.j < rears x.sheet = omega (arith, c.loop-j-test.true, c.loads-rears.ensures.0) in
    rw c.new-terms.ensures (
      c.requires.0,
      last,
      c.put_waters.ensures,
      part_long c.loop-j.out (36 * (c.loop-j.j * n)) (36 * waters x.sheet) (omega (arith, group_in x n c.loop-j.j c.args.out.now c.loop-j.out c.loads-waters.ensures.0 last c.requires.1 c.loop-j.invariant.1, c.loads-waters.ensures.0)),
    )

pub loop-j-preserved : goal.loop-j-preserved
loop-j-preserved c =
    let a = c.args in
    let x = a.force.now in
    let n = c.loads-waters.result in
    let inv = rw c.new-terms.ensures at c.loop-j.invariant in
    let told = rw c.new-terms.ensures at c.put_group-none.ensures in
    let room = group_in x n c.loop-j.j a.out.now c.loop-j.out c.loads-waters.ensures.0 (omega (arith, c.loop-j-test.true, c.loads-rears.ensures.0)) c.requires.1 inv.1 in
    rw c.new-terms.ensures
    (group_more x.sheet x.seat (plain a.b) c.loop-j.j n c.loop-j.none c.put_group-none.result a.out.now c.loop-j.out c.put_group-none.new.out c.loads-waters.ensures.0 (omega (arith, room, inv.1)) inv.1 inv.0 inv.2 inv.3 told)

pub returns : goal.returns
unfolding row_count
returns c =
    let a = c.args in
    let x = a.force.now in
    let terms = c.new-terms in
    let f = terms.result.front.arms.force in
    let all : c.loop-j.j ≡ c.loads-rears.result = omega arith in
    let e : c.loop-j.j * c.loads-waters.result ≡ row_count x.sheet = rw (all, c.loads-rears.ensures.0, c.loads-waters.ensures.0) in
    let inv = rw terms.ensures at c.loop-j.invariant in (
      all_blank x.sheet x.seat (plain a.b) c.loop-j.none _ e inv.2,
      all-put x.sheet x.seat (plain a.b) a.out.now c.loop-j.out _ e inv.3,
    )
