use Rattle.std.proofs.Common.{◌∙◌, subst}
use Rattle.bt_run.proofs.FindingLemmas.{edit_of_kept, pieces_stay}
use Rattle.bt_resolve.proofs.ListLemmas.{same_some}
use Rattle.bt_run.specs.inner.Edits.{KeepsPieces}
use Rattle.bt_run.proofs.kept_resolution.KeptResolution.edit_by.Goals as goal

pub edit-requires-2 : goal.edit-requires-2
edit-requires-2 c =
    let kept = c.args.self.now in
    edit_of_kept kept.resolution kept.texts c.in-Some.known.number c.args.old.now c.as_slice-new.result.now c.deref-2.result.now c.deref-4.result.now c.in_ok-edit.edit kept.read
    c.in-Some.ensures.here (c.deref-2.ensures ∙ c.in-Some.ensures.read) (c.deref-4.ensures ∙ c.in_ok-items.ensures ∙ c.in_ok-edited.ensures) c.in_ok-edit.ensures.edit

pub returns-clause-kept : goal.returns-clause-kept
returns-clause-kept c = λ made is.
    let kept = c.args.self.now in
    let number = c.in-Some.known.number in
    let items = c.in_ok-items.items in
    let of =
    edit_of_kept kept.resolution kept.texts number c.args.old.now c.as_slice-new.result.now c.deref-2.result.now items c.in_ok-edit.edit kept.read
    c.in-Some.ensures.here (c.deref-2.ensures ∙ c.in-Some.ensures.read) (c.in_ok-items.ensures ∙ c.in_ok-edited.ensures) c.in_ok-edit.ensures.edit in
    subst (KeepsPieces kept.resolution) (same_some _ made is) (pieces_stay kept.resolution number items c.in_ok-edit.edit c.of-kept.result of c.of-kept.ensures)
