use Rattle.std.proofs.Common.{◌≡◌, ◌++◌, drop, map}
use Rattle.serde_json.specs.View.{view}
use Rattle.bt_answers.specs.Related.{related_value}
use Rattle.bt_answers.proofs.related.related_values.Given as goal

abbrev pub invariant-found : goal.invariant-found
invariant-found l =
    map view l.list.items ++ map (related_value l.document l.pieces) (drop l.one-index l.found) ≡ map (related_value l.document l.pieces) l.found
