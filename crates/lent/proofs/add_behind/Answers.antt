-- `lent::add_behind` meets its contract: the entry is judged where the record stands, and one that gets no number is put behind the
-- file. Assumes nothing.
use Rattle.std.proofs.Common.{◌≡◌, ℕ, refl, sym, ap, ◌∙◌, arith, rules, List, take}
use Rattle.laws.specs.Lists.{length_more}
use Rattle.paper.specs.Numbers.{number_in, number_of}
use Rattle.paper.specs.Journal.{call_of, call_number}
use Rattle.paper.proofs.Numbers.{positive}
use Rattle.paper.proofs.Calls.{entry_number_lem, entry_added}
use Rattle.stored.proofs.Parts.{file_size}
use Rattle.stored.proofs.Judging.{entries_in, number_there, stands_then}
use Rattle.front.proofs.Fronts.{held_file, held_room}
use Rattle.lent.specs.Lent.{lent_file}
use Rattle.lent.proofs.Answers.{refused_held, accepted_held}
use Rattle.lent.proofs.add_behind.Goals as goal

pub returns-in_err-add : goal.returns-in_err-add
returns-in_err-add c =
    let a = c.args in
    let f = c.requires in
    let r = c.in_err-add.field-0.0 in
    let told : number_in c.from_residual.result ≡ number_of r = search rules in
    let n = number_there f.0 _ _ a.e _ f.2.stands c.in_err-add.ensures in
    refused_held (call_of a.e) a.buffer.now f.0 f.1 _ (told ∙ n ∙ sym (entry_number_lem f.0 a.e)) (omega (arith, told, positive r))

pub append-requires : goal.append-requires
append-requires c =
    let f = c.requires in
    (omega (arith, f.2.end), omega (arith, f.2.end, file_size f.0, held_room c.args.buffer.now f.0 f.1))

pub returns : goal.returns
returns c =
    let buffer : List ℕ = c.args.buffer.now in
    let e = c.args.e in
    let f = c.requires in
    let es = f.0 in
    let n = number_there es _ _ e _ f.2.stands c.in_ok-add.ensures in
    let none : call_number es (call_of e) ≡ 0 = entry_number_lem es e ∙ sym n in
    let count = entries_in _ _ (stands_then es _ _ e _ f.2.stands c.in_ok-add.ensures refl) ∙ length_more es e in
    let file = held_file buffer es f.1 in
    let end = ap (λ (k : ℕ). take k buffer) (f.2.end ∙ sym (file_size es)) ∙ file.1 in
    c.append.ensures file.0 es count end
    ∙ sym (accepted_held (call_of e) buffer es f.1 none ∙ ap (λ l. lent_file l buffer) (entry_added es e))
