use Rattle.std.proofs.Common.{◌∙◌, ap, sym, subst, map, length, List, ℕ}
use Rattle.bt_run.specs.SortCommand.{key_at}
use Rattle.bt_run.specs.inner.Course.{IsArranged}
use Rattle.bt_run.proofs.SortingLemmas.{sorted_order}
use Rattle.bt_run.proofs.sort_command.sorted_places.Goals as goal

pub returns : goal.returns
returns c =
    let count = length c.args.entries.now in
    c.in_ok-order.ensures ∙ ap (map (λ k. k.1)) c.as_slice.ensures.value
    ∙ sorted_order (λ k. k.0.now) (λ k. k.1) (key_at c.args.entries.now) count c.in_ok-keyed.keyed.items c.sort.new.self.items
    (subst (λ (ns : List ℕ). IsArranged count ns) (sym c.in_ok-keyed.ensures.places) c.requires) c.in_ok-keyed.ensures.keys c.in_ok-sort.ensures.permutation c.in_ok-sort.ensures.sorted
