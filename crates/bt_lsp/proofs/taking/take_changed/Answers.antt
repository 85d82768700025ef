use Rattle.std.proofs.Common.{ap, option_map, rules}
use Rattle.serde_json.specs.View.{view}
use Rattle.bt_documents.specs.declared.document.Document.{Document}
use Rattle.bt_lsp.proofs.TakenLemmas.{was_changed}
use Rattle.bt_lsp.proofs.taking.take_changed.Goals as goal

pub returns-clause-taken : goal.returns-clause-taken
returns-clause-taken c =
    let says = rw c.in-Some-2.is at c.in_ok-changes.ensures in
    let units = ap (option_map (λ (d : Document). d.counting)) c.in-Some-document_named.ensures in
    was_changed (view c.args.message.now) c.args.documents.now c.as_slice.result.now c.change.new.documents c.in-Some.uri.now c.as_bytes.result.now c.as_bytes-2.result.now
    c.in-Some-document_named.document.now.counting c.version_at-version.result _ c.in-Some-2.changes.items c.as_slice-2.result.now
    c.in-Some.ensures units says c.version_at-version.ensures c.as_bytes.ensures.value c.as_slice.ensures c.as_bytes-2.ensures.value c.as_slice-2.ensures.value (search rules)
    c.in_ok-change.ensures.documents
