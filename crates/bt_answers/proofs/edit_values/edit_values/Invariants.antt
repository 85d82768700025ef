use Rattle.std.proofs.Common.{◌≡◌, map, take}
use Rattle.serde_json.specs.View.{view}
use Rattle.bt_answers.specs.EditValues.{edit_values}
use Rattle.bt_answers.proofs.edit_values.edit_values.Given as goal

abbrev pub invariant-edits : goal.invariant-edits
invariant-edits l = map view l.all.items ≡ edit_values (take l.edit-index l.edits)
