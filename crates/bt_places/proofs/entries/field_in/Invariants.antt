use Rattle.std.proofs.Common.{◌≡◌, drop}
use Rattle.bt_places.specs.Entries.{field_in}
use Rattle.bt_places.proofs.entries.field_in.Given as goal

abbrev pub invariant-fields : goal.invariant-fields
invariant-fields l = field_in l.name (drop l.field-index l.fields) ≡ field_in l.name l.fields
