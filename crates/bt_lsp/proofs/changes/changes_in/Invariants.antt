use Rattle.std.proofs.Common.{◌≡◌, [], drop, map}
use Rattle.serde_json.specs.View.{view, items_of}
use Rattle.bt_lsp.specs.Changes.{changes_with}
use Rattle.bt_lsp.proofs.changes.changes_in.Given as goal

abbrev pub invariant-changes : goal.invariant-changes
invariant-changes l = changes_with l.counting l.changes.items (items_of (map view (drop l.value-index l.values))) ≡ changes_with l.counting [] (items_of (map view l.values))
