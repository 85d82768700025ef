use Rattle.std.proofs.Common.{◌≡◌, sym, subst, ap, ◌∙◌, Some, set, arith}
use Rattle.bt_text.specs.inner.Merging.{IsAt, IsGap, IsInOrder}
use Rattle.bt_text.specs.Sparse.{all_texts, IsRising}
use Rattle.bt_text.proofs.SparseLemmas.{in_order, rising_set, rising_insert, all_behind, all_set_at, all_insert}
use Rattle.bt_text.proofs.places.PlacedTexts.put.Goals as goal

pub returns-then-place-self-clause-ok : goal.returns-then-place-self-clause-ok
returns-then-place-self-clause-ok c =
    subst (λ all. all ≡ set all c.args.place (Some c.args.text)) c.self.view_is
    (sym (all_behind c.self.inside.present.items c.self.inside.count c.args.place (Some c.args.text) c.if-place-self.true))

pub search-requires : goal.search-requires
search-requires c = subst IsInOrder (sym c.as_slice.ensures.value) (in_order c.self.inside.present.items 0 c.self.inside.count c.self.invariant)

pub invariant_of-self : goal.invariant_of-self
invariant_of-self c =
    rising_set c.self.inside.present.items 0 c.self.inside.count c.args.place c.in-Ok.at c.args.text c.self.invariant
    (subst (λ xs. IsAt xs c.args.place c.in-Ok.at) c.as_slice.ensures.value c.in-Ok.ensures.found)

pub returns-in-Ok-clause-ok : goal.returns-in-Ok-clause-ok
returns-in-Ok-clause-ok c =
    let xs = c.self.inside.present.items in
    let count = c.self.inside.count in
    sym (all_set_at xs count c.args.place c.in-Ok.at c.args.text c.self.invariant
    (subst (λ xs. IsAt xs c.args.place c.in-Ok.at) c.as_slice.ensures.value c.in-Ok.ensures.found))
    ∙ ap (λ all. set all c.args.place (Some c.args.text)) c.self.view_is

pub invariant_of-self-in-Err : goal.invariant_of-self-in-Err
invariant_of-self-in-Err c =
    subst (IsRising 0 c.self.inside.count) (sym c.in_ok-insert-in-Err.ensures.items)
    (rising_insert c.self.inside.present.items 0 c.self.inside.count c.args.place c.in-Err.at c.args.text c.self.invariant
    (omega arith) c.if-place-self.false (subst (λ xs. IsGap xs c.args.place c.in-Err.at) c.as_slice.ensures.value c.in-Err.ensures.absent))

pub returns-in_ok-insert-in-Err-clause-ok : goal.returns-in_ok-insert-in-Err-clause-ok
returns-in_ok-insert-in-Err-clause-ok c =
    let xs = c.self.inside.present.items in
    let count = c.self.inside.count in
    ap (all_texts count) c.in_ok-insert-in-Err.ensures.items
    ∙ sym (all_insert xs count c.args.place c.in-Err.at c.args.text (subst (λ xs. IsGap xs c.args.place c.in-Err.at) c.as_slice.ensures.value c.in-Err.ensures.absent))
    ∙ ap (λ all. set all c.args.place (Some c.args.text)) c.self.view_is
