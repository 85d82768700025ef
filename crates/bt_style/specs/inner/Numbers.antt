-- The number of a name, by its list.
use Rattle.std.specs.Prelude.{ℕ, Option}
use Rattle.bt_style.specs.declared.style.Target.{Target}
use Rattle.bt_style.specs.declared.names.Names.{Names}
use Rattle.bt_style.specs.declared.names.Names.TheVariants.{Fields, EntryNumbers, EntryTexts, GlobalNumbers, GlobalTexts}
use Rattle.bt_style.specs.Numbers.{as_field, as_entry_number, as_entry_text, as_global_number, as_global_text}

-- the number of a name of a list
abbrev pub number_in : Names → Target → Option ℕ
number_in Fields name = as_field name
number_in EntryNumbers name = as_entry_number name
number_in EntryTexts name = as_entry_text name
number_in GlobalNumbers name = as_global_number name
number_in GlobalTexts name = as_global_text name
