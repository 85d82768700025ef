use Rattle.std.proofs.Common.{◌≡◌, ◌++◌, drop, map}
use Rattle.serde_json.specs.View.{view}
use Rattle.bt_remarks.specs.Values.{call}
use Rattle.bt_remarks.proofs.values.call_values.Given as goal

abbrev pub invariant-calls : goal.invariant-calls
invariant-calls l = map view l.list.items ++ map (call l.style.counting l.style.uri.now l.style.text.now) (drop l.one-index l.calls) ≡ map (call l.style.counting l.style.uri.now l.style.text.now) l.calls
