use Rattle.std.proofs.Common.{◌∙◌, ap, sym, ltb, ltb-true, ltb-false, arith, rules}
use Rattle.std.proofs.lemmas.List.Sorted.{IsPartitionPoint-from_clause, IsPartitionedBy-ltb}
use Rattle.bt_bib.specs.inner.Boundaries.{end_place}
use Rattle.bt_bib.proofs.RiseLemmas.{ends_rise}
use Rattle.bt_answers.specs.Related.{first_around}
use Rattle.bt_answers.proofs.AroundLemmas.{around_at}
use Rattle.bt_answers.proofs.related.found_around.Goals as goal

pub returns : goal.returns
returns c =
    let ps = c.args.pieces.now in
    let place = c.args.place in
    let count = c.partition_point-count.result in
    let parted = IsPartitionedBy-ltb end_place ps place (ends_rise c.requires.0 0 ps c.requires.1) in
    let point = IsPartitionPoint-from_clause (λ p. ltb (end_place p) place) _ _ c.partition_point-count.ensures.partitioned parted (λ a r q k. search rules) in
    let found = around_at c.requires.0 0 place count ps c.requires.1 c.partition_point-count.ensures.bound (λ k d lt. ltb-true _ _ (point.0 k d (omega arith) lt)) (λ d lt. ltb-false _ _ (point.1 count d (omega arith) lt)) in
    c.first_around.ensures ∙ ap (first_around place) c.split_at.ensures.back ∙ sym found
