use Rattle.std.proofs.Common.{◌≡◌, ◌++◌, drop, map}
use Rattle.serde_json.specs.View.{view}
use Rattle.bt_lsp.specs.Placing.{call}
use Rattle.bt_lsp.proofs.placing.calls.Given as goal

abbrev pub invariant-calls : goal.invariant-calls
invariant-calls l = map view l.list.items ++ map (call l.document) (drop l.one-index l.all) ≡ map (call l.document) l.all
