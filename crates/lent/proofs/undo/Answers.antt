-- `lent::undo` meets its contract: the header of one entry less. Assumes nothing.
use Rattle.std.proofs.Common.{◌≡◌, ap, ◌∙◌, arith, rules}
use Rattle.paper.specs.Numbers.{number_in, number_of}
use Rattle.paper.specs.Journal.{undo}
use Rattle.stored.proofs.Parts.{file_size}
use Rattle.stored.proofs.Judging.{entries_in}
use Rattle.front.proofs.Fronts.{held_room}
use Rattle.lent.proofs.Answers.{none_held, no_last, last_there, bare_held, undone}
use Rattle.lent.proofs.undo.Goals as goal

pub returns-in_err-found : goal.returns-in_err-found
returns-in_err-found c =
    let told : number_in c.from_residual.result ≡ number_of c.in_err-found.field-0.0 = search rules in
    none_held undo c.args.buffer.now _ _ told c.in_err-found.ensures

pub returns-in_err-last : goal.returns-in_err-last
returns-in_err-last c =
    let f = c.in_ok-found.ensures in
    let told : number_in c.from_residual-in_err-last.result ≡ number_of c.in_err-last.field-0.0 = search rules in
    let none = no_last f.0 _ _ f.2.last c.in_err-last.ensures.value in
    bare_held c.args.buffer.now f.0 f.1 _ (told ∙ ap number_of none.1) none.0

pub overflow_sub-found : goal.overflow_sub-found
overflow_sub-found c =
    let f = c.in_ok-found.ensures in
    let there = last_there f.0 _ _ f.2.last c.in_ok-last.ensures.value in
    omega (arith, entries_in _ _ f.2.stands)

pub put_header-requires : goal.put_header-requires
put_header-requires c =
    let f = c.in_ok-found.ensures in
    omega (arith, file_size f.0, held_room c.args.buffer.now f.0 f.1)

pub returns : goal.returns
returns c =
    let f = c.in_ok-found.ensures in
    let there = last_there f.0 _ _ f.2.last c.in_ok-last.ensures.value in
    undone c.args.buffer.now f.0 f.1 _ _ _ there.0 there.1 (entries_in _ _ f.2.stands) c.put_header.ensures
