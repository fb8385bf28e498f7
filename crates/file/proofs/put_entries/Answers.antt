-- `file::put_entries` meets its contract: each entry is written behind the one before it. Assumes nothing.
use Rattle.std.proofs.Common.{◌≡◌, sym, ap, ◌∙◌, length, ℕ, ◌+◌, ◌≤◌, take_all}
use mathlib.Core.List.{List}
use native.Mathlib.Omega.{arith}
use Rattle.laws.specs.Written.{written, written_none, length-written, part_long, written-part}
use Rattle.paper.specs.declared.Entry.{Entry}
use Rattle.paper.specs.Rows.{joined}
use Rattle.stored.specs.Found.{bytes_in}
use Rattle.stored.proofs.Parts.{file_size}
use Rattle.file.proofs.Slots.{bytes_to, bytes-part, within, put-more, counted}
use Rattle.file.proofs.put_entries.Goals as goal

pub loop-e-init : goal.loop-e-init
unfolding joined
loop-e-init c = (omega arith, sym (written_none c.args.out.now 6))

-- what the first i entries take is in the buffer
inside : (es : List Entry) (out : List ℕ) (i : ℕ) → 6 + length (bytes_in es) ≤ length out → i ≤ length es → 6 + length (bytes_to es i) ≤ length out
inside es out i room h =
    let all : bytes_to es (length es) ≡ bytes_in es = ap bytes_in (take_all (length es) es (omega arith)) in
    omega (arith, bytes-part es i (length es) h, ap length all)

-- so the next one begins in it
starts : (es : List Entry) (s out : List ℕ) (i at : ℕ) → 6 + length (bytes_in es) ≤ length s → i ≤ length es → at ≡ 6 + length (bytes_to es i) → out ≡ written s 6 (bytes_to es i) → at ≤ length out
starts es s out i at room h a o =
    let fits = inside es s i room h in
    omega (arith, fits, a, ap length o, length-written s 6 (bytes_to es i) fits)

pub slice_bounds-put_entry-count : goal.slice_bounds-put_entry-count
slice_bounds-put_entry-count c =
    let es = c.args.list.now in
    let l = c.loop-e in
    starts es c.args.out.now l.out l.e-index l.at (omega (arith, file_size es, c.requires)) (omega arith) l.invariant.0 l.invariant.1

pub slice_bounds-put_entry-start : goal.slice_bounds-put_entry-start
slice_bounds-put_entry-start c =
    let es = c.args.list.now in
    let l = c.loop-e in
    starts es c.args.out.now l.out l.e-index l.at (omega (arith, file_size es, c.requires)) (omega arith) l.invariant.0 l.invariant.1

pub overflow_add-at : goal.overflow_add-at
overflow_add-at c =
    let es = c.args.list.now in
    let l = c.loop-e in
    let room : 6 + length (bytes_in es) ≤ length c.args.out.now = omega (arith, file_size es, c.requires) in
    omega (arith, counted es l.e-index _ l.at _ (omega arith) l.invariant.0 c.put_entry-at.ensures.0, inside es c.args.out.now (l.e-index + 1) room (omega arith))

pub put_entry-at-requires : goal.put_entry-at-requires
put_entry-at-requires c =
    let es = c.args.list.now in
    let l = c.loop-e in
    let room : 6 + length (bytes_in es) ≤ length c.args.out.now = omega (arith, file_size es, c.requires) in
    let all : length (bytes_to es (length es)) ≡ length (bytes_in es) = ap (λ (fs : List Entry). length (bytes_in fs)) (take_all (length es) es (omega arith)) in
    let kept : length l.out ≡ length c.args.out.now = ap length l.invariant.1 ∙ length-written c.args.out.now 6 (bytes_to es l.e-index) (inside es c.args.out.now l.e-index room (omega arith)) in
    part_long l.out l.at _ (within es l.e-index _ (length es) l.at _ (omega arith) (omega arith) l.invariant.0 (omega (arith, room, kept, all)))

pub loop-e-preserved : goal.loop-e-preserved
loop-e-preserved c =
    let es = c.args.list.now in
    let l = c.loop-e in
    let room : 6 + length (bytes_in es) ≤ length c.args.out.now = omega (arith, file_size es, c.requires) in (
      counted es l.e-index _ l.at _ (omega arith) l.invariant.0 c.put_entry-at.ensures.0,
      put-more c.args.out.now es l.e-index _ l.out _ l.at (omega arith) (inside es c.args.out.now l.e-index room (omega arith)) l.invariant.0 l.invariant.1 (written-part l.out _ _ l.at c.put_entry-at.ensures.1),
    )

pub returns : goal.returns
returns c =
    let l = c.loop-e in
    let all = take_all l.e-index c.args.list.now (omega arith) in
    l.invariant.1 ∙ ap (λ (es : List Entry). written c.args.out.now 6 (bytes_in es)) all
