use Rattle.std.proofs.Common.{ap, refl, map, List, ℕ}
use Rattle.bt_bib.specs.BibText.{pieces_of}
use Rattle.bt_bib.specs.Items.{items_of}
use Rattle.bt_text.proofs.NameLemmas.{if_ok}
use Rattle.bt_resolve.specs.declared.declared.Macro.{Macro}
use Rattle.bt_resolve.specs.declared.entry.Resolved.{Resolved}
use Rattle.bt_resolve.specs.inner.Databases.{after_databases, nothing_read}
use Rattle.bt_resolve.proofs.PlacingLemmas.{resolved_is}
use Rattle.bt_resolve.proofs.resolution.resolve.Goals as goal

pub returns : goal.returns
returns c =
    let databases = map (λ (text : List ℕ). items_of (pieces_of text)) c.args.texts.now in
    let a = c.in_ok-asked.asked in
    let before = nothing_read c.as_slice.result.now in
    if_ok _ _ c.resolve_texts.result (λ (all : Resolved) is.
    resolved_is c.args.declared.now c.args.cites.now c.args.min databases a before (after_databases a 1 before databases) all c.in_ok-asked.ensures (ap (λ (ms : List Macro). nothing_read ms) c.as_slice.ensures) refl is) c.resolve_texts.ensures
