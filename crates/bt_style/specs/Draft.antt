-- A style while it is read: where it starts, and what each declaration adds.
use Rattle.std.specs.Prelude.{ℕ, List, [], ◌∷◌, ◌++◌, codes}
use Rattle.bt_style.specs.declared.style.Action.{Action}
use Rattle.bt_style.specs.declared.names.Names.{Names}
use Rattle.bt_style.specs.declared.names.Names.TheVariants.{Fields, EntryNumbers, EntryTexts, GlobalNumbers, GlobalTexts}
use Rattle.bt_style.specs.Program.{Program}

-- a style with one more name
abbrev pub with_name : Names → List ℕ → Program → Program
with_name Fields name p = record p { fields = p.fields ++ name ∷ [] }
with_name EntryNumbers name p = record p { entry_numbers = p.entry_numbers ++ name ∷ [] }
with_name EntryTexts name p = record p { entry_texts = p.entry_texts ++ name ∷ [] }
with_name GlobalNumbers name p = record p { global_numbers = p.global_numbers ++ name ∷ [] }
with_name GlobalTexts name p = record p { global_texts = p.global_texts ++ name ∷ [] }

abbrev pub with_command : Action → ℕ → Program → Program
with_command action line p = record p { commands = p.commands ++ (record { action = action; line = line }) ∷ [] }

-- what is declared before the first command
abbrev pub preset : Program
preset = record {
  fields = codes "crossref" ∷ [];
  entry_numbers = [];
  entry_texts = codes "sort.key$" ∷ [];
  global_numbers = codes "entry.max$" ∷ codes "global.max$" ∷ [];
  global_texts = [];
  macros = [];
  functions = [];
  commands = [];
}
