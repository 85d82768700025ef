use Rattle.std.proofs.Common.{◌∙◌, ap, sym, subst, map, List, ℕ}
use Rattle.std.specs.Prelude.{slice_set}
use Rattle.bt_bib.specs.BibText.{pieces_of}
use Rattle.bt_resolve.specs.declared.earlier.KeptPieces.{KeptPieces}
use Rattle.bt_resolve.specs.inner.Earlier.{AreEdited}
use Rattle.bt_resolve.proofs.EarlierLemmas.{nothing_edited}
use Rattle.bt_run.proofs.FindingLemmas.{texts_edited}
use Rattle.bt_run.proofs.kept_resolution.KeptResolution.edited_database.Goals as goal

pub returns-then-are_same : goal.returns-then-are_same
returns-then-are_same c =
    let kept = c.args.self.now in
    subst (λ (all : KeptPieces). AreEdited kept.resolution (record { number = 0; kept = all }) (map pieces_of c.args.texts.now)) (sym c.all.ensures)
    (nothing_edited kept.resolution 0 (map pieces_of c.args.texts.now) (ap (map pieces_of) (sym (c.are_same.ensures c.if-are_same.true) ∙ c.as_slice.ensures) ∙ sym kept.read))

pub returns : goal.returns
returns c =
    let kept = c.args.self.now in
    let edit = c.in-Some.edit in
    texts_edited kept.resolution kept.texts c.args.texts.now edit kept.read (c.makes.ensures c.if-not-makes.false ∙ ap (λ (texts : List (List ℕ)). slice_set texts edit.number edit.text) c.as_slice-2.ensures) (kept.kept edit c.in-Some.is)
