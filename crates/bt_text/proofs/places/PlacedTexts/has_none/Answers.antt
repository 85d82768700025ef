use Rattle.std.proofs.Common.{ap, ◌∙◌, length}
use Rattle.std.specs.Prelude.{is_none, ◌==◌}
use Rattle.std.specs.List.{list_all}
use Rattle.bt_text.specs.inner.Merging.{Present}
use Rattle.bt_text.proofs.SparseLemmas.{none_present}
use Rattle.bt_text.proofs.places.PlacedTexts.has_none.Goals as goal

pub returns : goal.returns
returns c =
    c.is_empty.ensures ∙ ap (λ (xs : Present). length xs == 0) c.as_slice.ensures.value
    ∙ none_present c.self.inside.present.items c.self.inside.count c.self.invariant ∙ ap (list_all is_none) c.self.view_is
