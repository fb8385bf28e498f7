-- `language::values_of` meets its contract. The loop's invariant: the words that came are read, and the iterator that the loop
-- began with gives the words behind the first, numbered from 0. Assumes nothing.
use Rattle.std.proofs.Common.{rules, tests, sym, ◌∙◌, ℕ, eqb, arith}
use mir.Syntax.{w64}
use mir.Facts.{to_z-of_z}
use Rattle.std.proofs.lemmas.Iterator.{YieldsList-from_take}
use Rattle.std.proofs.lemmas.Iterator.Adapters.{YieldsList-from_skip}
use Rattle.std.proofs.lemmas.Iterator.Consumers.{YieldsList-at, YieldsList-from_enumerate, YieldsList-turn, YieldsList-end}
use Rattle.std.proofs.lemmas.Iterator.Splits.{YieldsList-from_slice_split}
use Rattle.std.proofs.lemmas.List.{length_push}
use Rattle.std.proofs.lemmas.List.FromFn.{length-enumerate_from}
use Rattle.paper.specs.Placard.{space}
use Rattle.language.proofs.Values.{words_behind, few_words, part_here, no_numbers, read_more, read_all}
use Rattle.language.proofs.values_of.Goals as goal

pub loop-i-init : goal.loop-i-init
loop-i-init c = (
  sym (no_numbers 15),
  YieldsList-at c.into_iter-i-iterator.ensures.into_iter_gives
      (YieldsList-from_enumerate
      (YieldsList-at c.enumerate-i-items.ensures.source
      (YieldsList-from_take 15
      (YieldsList-at c.take.ensures.source
      (YieldsList-from_skip 1
      (YieldsList-at c.skip.ensures.source
      (YieldsList-from_slice_split _ (λ (x : ℕ). eqb x space) c.args.s.now c.split.ensures.rest c.split.ensures.done c.split.ensures.closure (λ x r q k. search (rules, tests))))
      c.skip.ensures.count))
      c.take.ensures.count))
      c.enumerate-i-items.ensures.count),
)

pub bounds-v-i : goal.bounds-v-i
bounds-v-i c =
    let ws = words_behind c.args.s.now in
    let p = part_here ws _ _ _ (YieldsList-turn c.loop-i.invariant.1 c.loop-i.yielded _ c.loop-i.yielded_by _ _ (c.in-Some.i, c.in-Some.word) c.in-Some.is c.next.ensures.steps) in
    omega (arith, few_words c.args.s.now, p.0, p.1)

pub loop-i-preserved : goal.loop-i-preserved
loop-i-preserved c =
    let ws = words_behind c.args.s.now in
    let p = part_here ws _ _ _ (YieldsList-turn c.loop-i.invariant.1 c.loop-i.yielded _ c.loop-i.yielded_by _ _ (c.in-Some.i, c.in-Some.word) c.in-Some.is c.next.ensures.steps) in
    let more = length_push c.loop-i.yielded (c.in-Some.i, c.in-Some.word) in
    let held = to_z-of_z {w = w64} {z = c.number_of.result} (record { sfits = c.number_of.type_inv }) in
    (rw (more, held) (read_more ws _ _ _ _ _ (few_words c.args.s.now) p c.loop-i.invariant.0 c.number_of.ensures), c.loop-i.invariant.1)

pub returns : goal.returns
returns c =
    let s = c.args.s.now in
    let e = YieldsList-end c.loop-i.invariant.1 c.loop-i.yielded _ c.loop-i.yielded_by _ _ c.in-None.is c.next.ensures.steps in
    c.loop-i.invariant.0 ∙ read_all s _ (omega (arith, e.1, length-enumerate_from 0 (words_behind s)))
