use Rattle.std.proofs.Common.{◌≡◌, ◌∙◌, ◌-◌, ◌++◌, filter, length, nat_lt, subst, sym}
use Rattle.std.specs.List.{range_with_len}
use Rattle.bt_run.specs.inner.Course.{IsArranged}
use Rattle.bt_run.proofs.AgainLemmas.{arranged_again}
use Rattle.bt_run.proofs.kept.Kept.order_for.Goals as goal

pub returns : goal.returns
returns c =
    let kept = c.args.self.now in
    let count = c.args.count in
    let is = c.in_ok-order.ensures ∙ (λ j. filter (λ n. nat_lt n count) (c.as_slice.ensures j) ++ range_with_len (c.len.ensures j) (count - c.len.ensures j)) in
    subst (IsArranged count) (sym is) (arranged_again (length kept.entries) count kept.order kept.arranged)
