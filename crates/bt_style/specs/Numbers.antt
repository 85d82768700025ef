-- The number of a name of one kind; a name of another kind has none.
use Rattle.std.specs.Prelude.{ℕ, Option, Some, None}
use Rattle.bt_style.specs.declared.style.Target.{Target}
use Rattle.bt_style.specs.declared.style.Target.TheVariants as targets

abbrev pub as_field : Target → Option ℕ
as_field (targets.Field n) = Some n
as_field _ = None

abbrev pub as_entry_number : Target → Option ℕ
as_entry_number (targets.EntryNumber n) = Some n
as_entry_number _ = None

abbrev pub as_entry_text : Target → Option ℕ
as_entry_text (targets.EntryText n) = Some n
as_entry_text _ = None

abbrev pub as_global_number : Target → Option ℕ
as_global_number (targets.GlobalNumber n) = Some n
as_global_number _ = None

abbrev pub as_global_text : Target → Option ℕ
as_global_text (targets.GlobalText n) = Some n
as_global_text _ = None
