-- `Terms::put_group` meets its contract. The loop's invariant: what is aboard is the rear load and the water of k steps, and the
-- first k rows of the group are put, and their blank ones counted, whatever the balance that the loop began with. Assumes nothing.
use mathlib.Core.Path.{◌≡◌, refl, ap, ◌∙◌}
use mathlib.Core.List.{List}
use Prim.Native.Nat.{ℕ, ◌+◌, ◌-◌, ◌*◌, ◌≤◌, ◌<◌}
use native.Mathlib.Nat.{add-mul, one-mul, zero-mul}
use native.Mathlib.Omega.{arith}
use lib.IntN.{pos, ◌+ℤ◌}
use lib.ListN.{length, take, drop}
use Rattle.laws.specs.Written.{written, part_long, written-part, length-written}
use Rattle.laws.specs.Z.{is_nat, is_add, same}
use Rattle.paper.specs.Units.{half_grams}
use Rattle.paper.specs.Placard.{line}
use Rattle.sheet.proofs.Accepted.{accepted-sheet}
use Rattle.seat.specs.declared.InForce.{InForce}
use Rattle.balance.specs.declared.Balance.{Balance as Carried}
use Rattle.balance.specs.Balance.{plain}
use Rattle.planes.proofs.Lines.{half_is}
use Rattle.aboard.proofs.Standing.{room-more, room_least}
use Rattle.line.proofs.Length.{length-line}
use Rattle.group.specs.Numbered.{rears, waters, blanks}
use Rattle.group.specs.Shared.{FieldsOf}
use Rattle.group.proofs.Rows.{blank_counted, one_at_most}
use Rattle.group.proofs.Buffer.{row_in, line_in_lem, rear_in, waters_few, group_begun, group_more}
use Rattle.group.proofs.Terms.put_group.Goals as goal

-- the non-lifting weight with the rear load
part_with : (b : Carried) (r : ℕ) → pos (b.nonlifting + 2 * r) ≡ (plain b).non_lifting +ℤ half_grams (pos r)
part_with b r = same (is_nat (b.nonlifting + 2 * r)) (is_add (is_nat b.nonlifting) (half_is r)) (omega arith)

-- a group's rear load fits
rear_most : (x : InForce) (j : ℕ) → j < rears x.sheet → j * x.sheet.rear.step ≤ 500000
rear_most x j h = omega (arith, rear_in x.sheet j h, (accepted-sheet x.sheet x.accepted).ranges.rear)

-- its rows are few, and the buffer has room for them
room_in : (x : InForce) (fields out : List ℕ) → FieldsOf x.sheet fields → 36 * waters x.sheet ≤ length out → (length fields ≤ 256) × (36 * length fields ≤ length out)
room_in x fields out f h = (waters_few x (length fields) f.count, omega (arith, h, f.count))

pub beside-x-requires : goal.beside-x-requires
beside-x-requires c = (c.requires.0, rear_most c.args.self.now.front.arms.force c.args.j c.requires.1)

pub overflow_mul-rear : goal.overflow_mul-rear
overflow_mul-rear c = omega (arith, rear_most c.args.self.now.front.arms.force c.args.j c.requires.1)

pub overflow_mul-rear-2 : goal.overflow_mul-rear-2
overflow_mul-rear-2 c = omega (arith, rear_most c.args.self.now.front.arms.force c.args.j c.requires.1)

pub overflow_add-b : goal.overflow_add-b
overflow_add-b c =
    omega (arith, rear_most c.args.self.now.front.arms.force c.args.j c.requires.1, c.requires.0.ranged.part, c.requires.0.ranged.most)

pub field-field-requires : goal.field-field-requires
field-field-requires c = omega (arith, rear_most c.args.self.now.front.arms.force c.args.j c.requires.1)

pub loop-k-init : goal.loop-k-init
loop-k-init c =
    let force = c.args.self.now.front.arms.force in
    let z : 0 * force.sheet.water.step ≡ 0 = zero-mul force.sheet.water.step in
    (omega arith, omega arith, refl, c.beside-x.ensures.0, λ g h. (rw z h, λ none. group_begun force.sheet force.seat g _ c.args.out.now))

pub row-y-requires : goal.row-y-requires
row-y-requires c =
    let room = room_in c.args.self.now.front.arms.force c.args.fields.now c.args.out.now c.requires.2 c.requires.3 in
    (room_least c.loop-k.k 256 c.loop-k.x (omega (arith, room.0)) c.loop-k.invariant.3, c.with_none-span.ensures.0)

pub overflow_mul-k : goal.overflow_mul-k
overflow_mul-k c =
    let room = room_in c.args.self.now.front.arms.force c.args.fields.now c.args.out.now c.requires.2 c.requires.3 in
    omega (arith, room.0)

pub slice_bounds-put_line-count : goal.slice_bounds-put_line-count
slice_bounds-put_line-count c =
    let room = room_in c.args.self.now.front.arms.force c.args.fields.now c.args.out.now c.requires.2 c.requires.3 in
    omega (arith, room.1, c.loop-k.invariant.2)

pub slice_bounds-put_line-start : goal.slice_bounds-put_line-start
slice_bounds-put_line-start c =
    let room = room_in c.args.self.now.front.arms.force c.args.fields.now c.args.out.now c.requires.2 c.requires.3 in
    omega (arith, room.1, c.loop-k.invariant.2)

pub put_line-requires : goal.put_line-requires
put_line-requires c =
    let room = room_in c.args.self.now.front.arms.force c.args.fields.now c.args.out.now c.requires.2 c.requires.3 in
    (part_long c.loop-k.out (36 * c.loop-k.k) 36 (omega (arith, room.1, c.loop-k.invariant.2)), c.row-y.ensures.0)

pub carried-x-requires : goal.carried-x-requires
carried-x-requires c =
    let room = room_in c.args.self.now.front.arms.force c.args.fields.now c.args.out.now c.requires.2 c.requires.3 in
    (room_least c.loop-k.k 256 c.loop-k.x (omega (arith, room.0)) c.loop-k.invariant.3, c.args.self.now.share_in)

pub loop-k-preserved : goal.loop-k-preserved
loop-k-preserved c =
    let a = c.args in
    let force = a.self.now.front.arms.force in
    let s = force.sheet in
    let f = force.seat in
    let n = length a.fields.now in
    let room = room_in force a.fields.now a.out.now c.requires.2 c.requires.3 in
    let k = c.loop-k.k in
    let out = c.loop-k.out in
    let water = k * s.water.step in
    let rear = a.j * s.rear.step in
    let inv = c.loop-k.invariant in
    let count = c.requires.2.count in
    let taken : k < n = c.loop-k-test.true in
    let blank = blank_counted c.row-y.result c.is_none.result c.is_none.ensures in
    let field = c.requires.2.each k (omega (arith, count, taken)) in
    let put : c.put_line.new.out ≡ written (take (length out - 36 * k) (drop (36 * k) out)) 0 (line rear water c.row-y.result) = c.put_line.ensures rear water c.field-field.ensures field in
    let whole = written-part out c.put_line.new.out _ (36 * k) put in
    let next : (k + 1) * s.water.step ≡ water + s.water.step = omega (arith, add-mul k 1 s.water.step, one-mul s.water.step) in (
      omega arith,
      omega (arith, one_at_most _ c.from-none.result c.from-none.ensures),
      ap length whole ∙ length-written out _ _ (rw length-line (omega (arith, room.1, inv.2))) ∙ inv.2,
      room-more k c.loop-k.x a.self.now.share c.carried-x.result c.carried-x.ensures.0 inv.3 a.self.now.share_in,
      λ g h. (
        rw next (c.carried-x.ensures.1 s g rear water (inv.4 g h).0 a.self.now.share_is),
        λ none.
            let row_is = c.row-y.ensures.1 g rear water (inv.4 g h).0 none in
            group_more s f g (a.j * n) k c.loop-k.none c.from-none.result a.out.now out _ ((inv.4 g h).1 none)
            (omega (arith, room.1))
            (c.from-none.ensures ∙ blank ∙ ap blanks (row_is ∙ row_in s n count a.j k taken f g))
            (whole ∙ ap (λ y. written out (36 * k) y) (ap (λ y. line rear water y) row_is ∙ line_in_lem s n count a.j k taken f g)),
      ),
    )

pub returns : goal.returns
returns c =
    let a = c.args in
    let force = a.self.now.front.arms.force in
    let g = plain a.b in
    let none = c.with_none-span.ensures.1 g (a.j * force.sheet.rear.step) c.beside-x.ensures.1 (part_with a.b (a.j * force.sheet.rear.step)) in
    let put = (c.loop-k.invariant.4 g c.beside-x.ensures.1).1 none in
    let count = c.requires.2.count in
    let all : c.loop-k.k ≡ waters force.sheet = omega (arith, count) in
    let done = rw (count, all) at put in
    (omega (arith, count), done.blanks, done.lines)
