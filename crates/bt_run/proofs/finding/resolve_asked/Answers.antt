use Rattle.std.proofs.Common.{◌∙◌, ap, map, List, ℕ}
use Rattle.bt_bib.specs.BibText.{pieces_of}
use Rattle.bt_bib.specs.Items.{PlacedItem, items_of}
use Rattle.bt_resolve.specs.Resolved.{resolved}
use Rattle.bt_run.proofs.FindingLemmas.{maps}
use Rattle.bt_run.proofs.finding.resolve_asked.Goals as goal

pub returns : goal.returns
returns c =
    let a = c.args.asking.now in
    c.in_ok-all.ensures ∙ ap (λ (ds : List (List PlacedItem)). resolved a.declared a.cites ds a.min)
    (ap (map (λ (text : List ℕ). items_of (pieces_of text))) c.as_slice.ensures ∙ maps items_of pieces_of a.texts)
