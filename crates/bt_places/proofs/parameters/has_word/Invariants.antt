use Rattle.std.proofs.Common.{◌≡◌, drop, map}
use Rattle.serde_json.specs.View.{view, items_of}
use Rattle.bt_places.specs.Parameters.{has_word}
use Rattle.bt_places.proofs.parameters.has_word.Given as goal

abbrev pub invariant-values : goal.invariant-values
invariant-values l = has_word l.word (items_of (map view (drop l.value-index l.values))) ≡ has_word l.word (items_of (map view l.values))
