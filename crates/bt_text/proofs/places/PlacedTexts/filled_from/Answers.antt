use Rattle.std.proofs.Common.{◌≡◌, sym, subst, ap, ◌∙◌, arith}
use Rattle.bt_text.specs.Sparse.{all_texts, filled_from, IsRising}
use Rattle.bt_text.specs.inner.Merging.{merged}
use Rattle.bt_text.proofs.MergingLemmas.{all_merged, rising_merged}
use Rattle.bt_text.proofs.places.PlacedTexts.filled_from.Goals as goal

pub invariant_of-result : goal.invariant_of-result
invariant_of-result c =
    let xs = c.self.inside.present.items in
    let ys = c.others.inside.present.items in
    let count = c.self.inside.count in
    let is : c.in_ok-present.present.items ≡ merged count xs ys =
    c.in_ok-present.ensures ∙ ap (λ zs. merged count zs c.as_slice.result.now) c.as_slice-texts.ensures.value ∙ ap (merged count xs) c.as_slice.ensures.value in
    subst (IsRising 0 count) (sym is) (rising_merged xs ys 0 c.others.inside.count count (omega arith) c.self.invariant c.others.invariant)

pub returns : goal.returns
returns c =
    let xs = c.self.inside.present.items in
    let ys = c.others.inside.present.items in
    let count = c.self.inside.count in
    let is : c.in_ok-present.present.items ≡ merged count xs ys =
    c.in_ok-present.ensures ∙ ap (λ zs. merged count zs c.as_slice.result.now) c.as_slice-texts.ensures.value ∙ ap (merged count xs) c.as_slice.ensures.value in
    ap (all_texts count) is ∙ all_merged xs ys count c.others.inside.count c.self.invariant c.others.invariant
    ∙ ap (λ all. filled_from all (all_texts c.others.inside.count ys)) c.self.view_is ∙ ap (filled_from c.args.self.now) c.others.view_is
