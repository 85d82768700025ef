use Rattle.std.proofs.Common.{ℕ, leb, leb-true, leb-false, arith, rules}
use Rattle.std.proofs.lemmas.List.Sorted.{IsPartitionPoint-from_clause, IsPartitionedBy-leb}
use Rattle.bt_positions.proofs.StartLemmas.{these_rise, counted}
use Rattle.bt_positions.proofs.lines.lines_before.Goals as goal

pub returns : goal.returns
returns c =
    let starts = c.args.starts.now in
    let n = c.args.offset in
    let parted = IsPartitionedBy-leb (λ (k : ℕ). k) starts n (these_rise c.args.text.now starts c.requires) in
    let point = IsPartitionPoint-from_clause (λ k. leb k n) _ _ c.partition_point.ensures.partitioned parted (λ a r q k. search rules) in record {
      value = counted n c.partition_point.result c.args.text.now starts c.requires c.partition_point.ensures.bound
          (λ k d lt. leb-true _ _ (point.0 k d (omega arith) lt)) (λ d lt. leb-false _ _ (point.1 c.partition_point.result d (omega arith) lt));
      within = c.partition_point.ensures.bound;
    }
