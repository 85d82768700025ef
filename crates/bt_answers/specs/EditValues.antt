-- Edits as values of the protocol.
use Rattle.std.specs.Prelude.{List, map}
use Rattle.serde_json.specs.Data.{Data}
use Rattle.bt_shapes.specs.Shapes.{range, text_edit}
use Rattle.bt_edited.specs.declared.edits.Edit.{Edit}

abbrev pub edit_value : Edit → Data
edit_value e = text_edit (range e.from e.to) e.new

abbrev pub edit_values : List Edit → List Data
edit_values es = map edit_value es
