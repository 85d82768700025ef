-- What a step is found by: its command, and the key of its entry.
use Rattle.std.specs.Prelude.{◌++◌, ◌==◌, ◌&&◌, ℕ, Bool, List, [], Option, bytes_eq, unwrap_or}
use Rattle.std.specs.Hash as fed
use Rattle.std.specs.Hash.{HashWrites}
use Rattle.std.specs.HashMap as hashed
use Rattle.bt_machine.specs.declared.input.Input.{Input}
use Rattle.bt_run.specs.declared.index.StepName.{StepName}
use Rattle.bt_run.specs.declared.index.Index.{Index}
use Rattle.bt_run.specs.Course.{key_in}

-- a key; nothing where there is none
abbrev pub key_or_none : Option (List ℕ) → List ℕ
key_or_none key = unwrap_or key []

-- Whether two names are the same. No key counts as the empty key.
abbrev pub same_name : StepName → StepName → Bool
same_name a b = a.command == b.command && bytes_eq (key_or_none a.key) (key_or_none b.key)

-- what of a name is hashed
abbrev pub name_writes : StepName → HashWrites
name_writes a = fed.usize a.command ++ fed.slice fed.u8 (key_or_none a.key)

-- the name of a step: the number of its command, and the key of its entry
abbrev pub step_name : ℕ → Input → StepName
step_name command i = record { command = command; key = key_in i }

-- the place at a name
abbrev pub place_at : Index → StepName → Option ℕ
place_at index name = hashed.get same_name index.places name
