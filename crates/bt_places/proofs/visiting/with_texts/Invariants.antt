use Rattle.std.proofs.Common.{◌≡◌, drop, map}
use Rattle.serde_json.specs.View.{view}
use Rattle.bt_places.specs.Visiting.{with_texts}
use Rattle.bt_places.proofs.visiting.with_texts.Given as goal

abbrev pub invariant-documents : goal.invariant-documents
invariant-documents g l =
    let add = g.V.Visit.added l.visitor in
    with_texts add (drop l.document-index l.documents) (map view l.all.items) ≡ with_texts add l.documents (map view l.fn.list.items)
