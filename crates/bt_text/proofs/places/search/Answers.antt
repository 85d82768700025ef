use Rattle.std.proofs.Common.{rules}
use Rattle.std.proofs.lemmas.List.Sorted.{answers_always}
use Rattle.bt_text.proofs.SparseLemmas.{searched}
use Rattle.bt_text.proofs.places.search.Goals as goal

pub returns-clause-found : goal.returns-clause-found
returns-clause-found c =
    let facts = c.binary_search_by_key.ensures in
    let by_place = facts.position (λ x. x.0) (answers_always _ _ _ (λ f a r g called. search rules)) in
    (searched _ c.args.place c.requires _ facts.bound by_place).found

pub returns-clause-absent : goal.returns-clause-absent
returns-clause-absent c =
    let facts = c.binary_search_by_key.ensures in
    let by_place = facts.position (λ x. x.0) (answers_always _ _ _ (λ f a r g called. search rules)) in
    (searched _ c.args.place c.requires _ facts.bound by_place).absent
