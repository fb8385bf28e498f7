-- `Fittings::search` meets its contract: the search goes by the arm, and the arms rise. Assumes nothing.
use Rattle.std.proofs.Common.{rules, sym, ◌∙◌}
use Rattle.std.proofs.lemmas.List.Sorted.{answers_always}
use Rattle.fittings.proofs.Places.{search_ends}
use Rattle.fittings.proofs.Fittings.search.Goals as goal

pub returns-clause-found : goal.returns-clause-found
returns-clause-found c =
    let facts = c.binary_search_by_key.ensures in
    let by_arm = facts.position (λ e. e.arm) (answers_always _ _ _ (λ f a r g called. search rules)) in
    let ends = search_ends c.requires.0 _ c.args.arm _ _ (c.equipment.ensures ∙ c.requires.1) (search rules) facts.bound by_arm in
    rw (sym c.equipment.ensures) ends.0

pub returns-clause-absent : goal.returns-clause-absent
returns-clause-absent c =
    let facts = c.binary_search_by_key.ensures in
    let by_arm = facts.position (λ e. e.arm) (answers_always _ _ _ (λ f a r g called. search rules)) in
    let ends = search_ends c.requires.0 _ c.args.arm _ _ (c.equipment.ensures ∙ c.requires.1) (search rules) facts.bound by_arm in
    rw (sym c.equipment.ensures) ends.1
