use Rattle.std.proofs.Common.{◌≡◌, ◌++◌, drop, map}
use Rattle.serde_json.specs.View.{view}
use Rattle.bt_places.specs.Shapes.{diagnostic}
use Rattle.bt_places.proofs.shapes.diagnostic_values.Given as goal

abbrev pub invariant-found : goal.invariant-found
invariant-found l = map view l.list.items ++ map diagnostic (drop l.one-index l.found) ≡ map diagnostic l.found
