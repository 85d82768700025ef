use Rattle.std.proofs.Common.{◌≡◌, ◌++◌, drop, map}
use Rattle.serde_json.specs.View.{view}
use Rattle.bt_remarks.specs.Values.{finding}
use Rattle.bt_remarks.proofs.values.with_findings.Given as goal

abbrev pub invariant-found : goal.invariant-found
invariant-found l =
    map view l.all.items ++ map (finding l.style.counting l.style.uri.now l.style.text.now) (drop l.one-index l.found) ≡
    map view l.fn.list.items ++ map (finding l.style.counting l.style.uri.now l.style.text.now) l.found
