-- Each built-in function is at its place in the table.
use Rattle.std.specs.Prelude.{◌≡◌, Some, slice_get}
use Rattle.bt_style.specs.declared.builtin.Builtin.{Builtin}
use Rattle.bt_style.specs.Builtins.{place_of, table}

-- each function is at its place in the table
abbrev pub StandInTheirPlaces : Type 0
StandInTheirPlaces = (b : Builtin) → slice_get table (place_of b) ≡ Some b
