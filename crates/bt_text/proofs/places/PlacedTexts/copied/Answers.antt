use Rattle.std.proofs.Common.{sym, subst, ap, ◌∙◌}
use Rattle.bt_text.specs.Sparse.{all_texts, IsRising}
use Rattle.bt_text.proofs.places.PlacedTexts.copied.Goals as goal

pub invariant_of-result : goal.invariant_of-result
invariant_of-result c = subst (IsRising 0 c.self.inside.count) (sym (c.in_ok-present.ensures ∙ c.as_slice.ensures.value)) c.self.invariant

pub returns : goal.returns
returns c = ap (all_texts c.self.inside.count) (c.in_ok-present.ensures ∙ c.as_slice.ensures.value) ∙ c.self.view_is
