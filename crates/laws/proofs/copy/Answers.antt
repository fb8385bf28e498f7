-- `laws::copy` meets its contract: one byte more is written at a time. Assumes nothing.
use Rattle.std.proofs.Common.{◌≡◌, ◌+◌, refl, sym, ◌∙◌, ap, arith, List, ℕ, length, get_or, take, take_all, slice_set}
use Rattle.std.proofs.lemmas.List.{take_more, length-take-le}
use Rattle.laws.specs.Written.{written, written_none, written_then}
use Rattle.laws.proofs.copy.Goals as goal

pub loop-i-init : goal.loop-i-init
loop-i-init c = sym (written_none c.args.out.now 0)

pub loop-i-preserved : goal.loop-i-preserved
loop-i-preserved c =
    let s = c.args.s.now in
    let out = c.args.out.now in
    let i = c.loop-i.i in
    let n : length (take i s) ≡ i = length-take-le i s (omega arith) in
    let e = ap (λ (xs : List ℕ). slice_set xs i (get_or s i 0)) c.loop-i.invariant in
    let z : 0 + i ≡ i = omega arith in
    e ∙ rw z at (written_then out (take i s) (get_or s i 0) 0 i n (omega arith)) ∙ ap (written out 0) (sym (take_more s i 0 (omega arith)))

pub returns : goal.returns
returns c = (refl, c.loop-i.invariant ∙ ap (written c.args.out.now 0) (take_all c.loop-i.i c.args.s.now (omega arith)))
