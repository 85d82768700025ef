-- What a name that is declared next stands for.
use Rattle.std.specs.Prelude.{length}
use Rattle.bt_style.specs.declared.style.Target.{Target}
use Rattle.bt_style.specs.declared.style.Target.TheVariants as targets
use Rattle.bt_style.specs.declared.names.Names.{Names}
use Rattle.bt_style.specs.declared.names.Names.TheVariants.{Fields, EntryNumbers, EntryTexts, GlobalNumbers, GlobalTexts}
use Rattle.bt_style.specs.Program.{Program}

-- what such a name then stands for
abbrev pub next_target : Names → Program → Target
next_target Fields p = targets.Field (length p.fields)
next_target EntryNumbers p = targets.EntryNumber (length p.entry_numbers)
next_target EntryTexts p = targets.EntryText (length p.entry_texts)
next_target GlobalNumbers p = targets.GlobalNumber (length p.global_numbers)
next_target GlobalTexts p = targets.GlobalText (length p.global_texts)
