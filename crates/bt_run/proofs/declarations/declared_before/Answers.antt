use Rattle.std.proofs.Common.{ap, ◌∙◌, map, take}
use Rattle.bt_run.specs.inner.Cases.{known_macro}
use Rattle.bt_run.proofs.ReadingLemmas.{declared_by}
use Rattle.bt_run.proofs.declarations.declared_before.Goals as goal

pub returns : goal.returns
returns c =
    declared_by c.args.style.now c.args.number c.definition_count.result c.in_ok-copied_texts.field-0 c.in_ok-names_of.field-0 c.in_ok-known_macros.field-0 c.first-before.result.now c.first-functions.result.now
    (c.in_ok-copied_texts.ensures ∙ c.as_slice-3.ensures) (c.first-before.ensures ∙ ap (take c.args.number) c.as_slice.ensures) c.definition_count.ensures (c.first-functions.ensures ∙ ap (take c.definition_count.result) c.as_slice-2.ensures.value) c.in_ok-names_of.ensures (c.in_ok-known_macros.ensures ∙ ap (map known_macro) c.as_slice-4.ensures)
