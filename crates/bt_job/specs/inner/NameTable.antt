-- Tables of names, which match byte for byte.
use Rattle.std.specs.Prelude.{◌≡◌, ℕ, Bool, List, bytes_eq}
use Rattle.std.specs.List.{list_any}
use Rattle.bt_job.specs.declared.name_table.NameTable.{NameTable}
use Rattle.bt_text.specs.NameList.{is_among}

-- whether a table has a name
abbrev pub has_name : NameTable → List ℕ → Bool
has_name table name = list_any (λ key. bytes_eq name key.items) table.names.keys

-- a table has exactly the names of a list
abbrev pub Mirrors : NameTable → List (List ℕ) → Type 0
Mirrors table names = (name : List ℕ) → has_name table name ≡ is_among names name
