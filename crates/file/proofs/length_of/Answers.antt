-- `file::length_of` meets its contract: what each entry takes is added up, behind the header. Assumes nothing.
use Rattle.std.proofs.Common.{◌≡◌, length, arith, rules, of_calls}
use Rattle.std.proofs.lemmas.Iterator.{YieldsList-from_slice, YieldsList-from_map}
use Rattle.std.proofs.lemmas.Iterator.Consumers.{sum_by_from_yields_List, fits_by_from_yields_list}
use Rattle.std.specs.List.{sum_by}
use Rattle.paper.specs.declared.Entry.{Entry}
use Rattle.paper.specs.File.{entry_bytes}
use Rattle.stored.proofs.Parts.{file_size}
use Rattle.file.proofs.Slots.{summed, summed_most}
use Rattle.file.proofs.length_of.Goals as goal

pub sum-requires : goal.sum-requires
sum-requires c =
    record {
      can = search of_calls;
      finite = search of_calls;
      fits = fits_by_from_yields_list _ _ c.map.result _
          (YieldsList-from_map _ (λ (e : Entry). length (entry_bytes e)) (YieldsList-from_slice c.args.list.now cc) c.map.ensures.closure (λ x r q k. search rules))
          (omega (arith, summed_most c.args.list.now c.requires));
    }

pub overflow_add-result : goal.overflow_add-result
overflow_add-result c =
    let sum : c.sum.result ≡ sum_by (λ (e : Entry). length (entry_bytes e)) c.args.list.now =
    sum_by_from_yields_List _ _ c.map.result _ c.sum.ensures.ran
    (YieldsList-from_map _ (λ (e : Entry). length (entry_bytes e)) (YieldsList-from_slice c.args.list.now cc) c.map.ensures.closure (λ x r q k. search rules)) in
    omega (arith, sum, summed_most c.args.list.now c.requires)

pub returns : goal.returns
returns c =
    let sum : c.sum.result ≡ sum_by (λ (e : Entry). length (entry_bytes e)) c.args.list.now =
    sum_by_from_yields_List _ _ c.map.result _ c.sum.ensures.ran
    (YieldsList-from_map _ (λ (e : Entry). length (entry_bytes e)) (YieldsList-from_slice c.args.list.now cc) c.map.ensures.closure (λ x r q k. search rules)) in
    omega (arith, sum, summed c.args.list.now, file_size c.args.list.now)
