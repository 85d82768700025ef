use Rattle.std.proofs.Common.{◌∙◌, ap, Bool, List}
use Rattle.std.specs.Prelude.{slice_set, true}
use Rattle.bt_resolve.proofs.NeededLemmas.{none_marked}
use Rattle.bt_resolve.proofs.heirs.marked_at.Goals as goal

pub returns : goal.returns
returns c = c.mark.ensures ∙ ap (λ (ms : List Bool). slice_set ms c.args.place true) (c.in_ok-marks.ensures.items_if_clones_equal (λ y h. h) ∙ none_marked c.args.entries.now)
