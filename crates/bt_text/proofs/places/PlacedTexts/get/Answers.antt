use Rattle.std.proofs.Common.{sym, subst, ap, ◌∙◌, None, get_or}
use Rattle.bt_text.specs.inner.Merging.{IsAt, IsGap, IsInOrder}
use Rattle.bt_text.proofs.SparseLemmas.{in_order, got, all_get_gap}
use Rattle.bt_text.proofs.places.PlacedTexts.get.Goals as goal

pub search-requires : goal.search-requires
search-requires c = subst IsInOrder (sym c.as_slice.ensures.value) (in_order c.self.inside.present.items 0 c.self.inside.count c.self.invariant)

pub returns-in-Ok : goal.returns-in-Ok
returns-in-Ok c =
    let there = subst (λ xs. IsAt xs c.args.place c.in-Ok.at) c.as_slice.ensures.value c.in-Ok.ensures.found in
    got c.self.inside.present.items c.self.inside.count c.args.place c.in-Ok.at c.index.result.now c.self.invariant there c.index.ensures
    ∙ ap (λ all. get_or all c.args.place None) c.self.view_is

pub returns-in-Err : goal.returns-in-Err
returns-in-Err c =
    let gap = subst (λ xs. IsGap xs c.args.place c.in-Err.field-0) c.as_slice.ensures.value c.in-Err.ensures.absent in
    sym (all_get_gap c.self.inside.present.items c.self.inside.count c.args.place c.in-Err.field-0 c.self.invariant gap)
    ∙ ap (λ all. get_or all c.args.place None) c.self.view_is
