use Rattle.std.proofs.Common.{ltb, ltb-true, ltb-false, arith, rules}
use Rattle.std.proofs.lemmas.List.Sorted.{IsPartitionPoint-from_clause, IsPartitionedBy-ltb}
use Rattle.bt_bib.specs.inner.Boundaries.{end_place}
use Rattle.bt_bib.proofs.RiseLemmas.{ends_rise, below_is_take}
use Rattle.bt_bib.proofs.boundaries.count_below.Goals as goal

pub returns-clause-value : goal.returns-clause-value
returns-clause-value c =
    let ps = c.args.pieces.now in
    let parted = IsPartitionedBy-ltb end_place ps c.args.limit (ends_rise c.requires.0 0 ps c.requires.1) in
    let point = IsPartitionPoint-from_clause (λ p. ltb (end_place p) c.args.limit) _ _ c.partition_point.ensures.partitioned parted (λ a r q k. search rules) in
    below_is_take c.args.limit c.partition_point.result ps c.partition_point.ensures.bound (λ k d lt. ltb-true _ _ (point.0 k d (omega arith) lt)) (λ d lt. ltb-false _ _ (point.1 c.partition_point.result d (omega arith) lt))
