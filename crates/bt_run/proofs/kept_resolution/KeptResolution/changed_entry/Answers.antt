use Rattle.std.specs.Prelude.{slice_set}
use Rattle.std.proofs.Common.{◌∙◌, ◌<◌, ap, subst, sym, length, List}
use Rattle.bt_resolve.specs.declared.entry.Entry.{Entry}
use Rattle.bt_resolve.specs.inner.Heirs.{with_made}
use Rattle.bt_run.proofs.ChangedEntryLemmas.{is_other}
use Rattle.bt_run.proofs.kept_resolution.KeptResolution.changed_entry.Goals as goal

pub returns-in_ok-other-in-Others : goal.returns-in_ok-other-in-Others
returns-in_ok-other-in-Others c =
    let other = c.in_ok-other-in-Others.other in
    let are = c.in_ok-other-in-Others.ensures in
    is_other c.args.self.now c.in_ok-edit.edit.now c.in_ok-made.made.now c.in-Others.others c.resolved-found.result.now other.place other.entry.now
    c.resolved-found.ensures (sym c.in_ok-edit.ensures.value) (sym c.in_ok-made.ensures.value) c.in-Others.is
    (subst (λ (es : List Entry). other.place < length es) c.as_slice-in-Others.ensures are.within)
    ((λ j. with_made (sym c.as_slice-in-Others-2.ensures j) (sym c.as_slice-in-Others.ensures j))
    ∙ are.entries ∙ ap (λ (es : List Entry). slice_set es other.place other.entry.now) c.as_slice-in-Others.ensures)
    (sym c.as_slice.ensures ∙ c.are_same_messages.ensures c.if-not-are_same_messages.false ∙ c.as_slice-2.ensures)
