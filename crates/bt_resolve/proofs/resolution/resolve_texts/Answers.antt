use Rattle.std.proofs.Common.{◌∙◌, ap, map, List, ℕ}
use Rattle.bt_bib.specs.BibText.{pieces_of}
use Rattle.bt_bib.specs.Items.{items_of}
use Rattle.bt_resolve.specs.inner.Databases.{State, after_databases, resolved_after}
use Rattle.bt_resolve.specs.declared.kept.Found.{Found}
use Rattle.bt_resolve.proofs.resolution.resolve_texts.Goals as goal

pub returns : goal.returns
returns c =
    let a = c.args.asked.now in
    let databases = map (λ (text : List ℕ). items_of (pieces_of text)) c.args.texts.now in
    ap (λ (f : Found). f.all) c.in_ok-found.ensures
    ∙ ap (resolved_after a c.args.min)
    (c.in_ok-read_texts.ensures ∙ ap (λ (s : State). after_databases a 1 s databases) c.in_ok-read.ensures)
