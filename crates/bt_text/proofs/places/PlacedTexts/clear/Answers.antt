use Rattle.std.proofs.Common.{◌≡◌, sym, subst, ap, ◌∙◌, None, set}
use Rattle.bt_text.specs.inner.Merging.{IsAt, IsGap, IsInOrder}
use Rattle.bt_text.specs.Sparse.{all_texts, IsRising}
use Rattle.bt_text.proofs.SparseLemmas.{in_order, rising_remove, all_remove_at, all_in_gap}
use Rattle.bt_text.proofs.places.PlacedTexts.clear.Goals as goal

pub search-requires : goal.search-requires
search-requires c = subst IsInOrder (sym c.as_slice.ensures.value) (in_order c.self.inside.present.items 0 c.self.inside.count c.self.invariant)

pub invariant_of-self : goal.invariant_of-self
invariant_of-self c =
    subst (IsRising 0 c.self.inside.count) (sym c.remove.ensures.items)
    (rising_remove c.self.inside.present.items 0 c.self.inside.count c.in-Ok.at c.self.invariant)

pub returns-in-Ok : goal.returns-in-Ok
returns-in-Ok c =
    let xs = c.self.inside.present.items in
    let count = c.self.inside.count in
    ap (all_texts count) c.remove.ensures.items
    ∙ sym (all_remove_at xs count c.args.place c.in-Ok.at c.self.invariant (subst (λ xs. IsAt xs c.args.place c.in-Ok.at) c.as_slice.ensures.value c.in-Ok.ensures.found))
    ∙ ap (λ all. set all c.args.place None) c.self.view_is

pub returns-in_default : goal.returns-in_default
returns-in_default c =
    subst (λ all. all ≡ set all c.args.place None) c.self.view_is
    (sym (all_in_gap c.self.inside.present.items c.self.inside.count c.args.place c.in_default.field-0
    (subst (λ xs. IsGap xs c.args.place c.in_default.field-0) c.as_slice.ensures.value c.in_default.ensures.absent)))
