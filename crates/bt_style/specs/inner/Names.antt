-- Built-in functions and their names, and a table that has at each name what a function gives.
use Rattle.std.specs.Prelude.{◌≡◌, ℕ, List, Option, bytes_eq}
use Rattle.std.specs.List.{find}
use Rattle.bt_text.specs.declared.by_name.ByName.{ByName}
use Rattle.bt_text.specs.ByName.{at_small}
use Rattle.bt_style.specs.declared.builtin.Builtin.{Builtin}
use Rattle.bt_style.specs.Builtins.{name_of}

-- the built-in function of a name, among these
abbrev pub builtin_among : List Builtin → List ℕ → Option Builtin
builtin_among builtins name = find (λ b. bytes_eq (name_of b) name) builtins

-- a table has at each name in small letters what a function gives
abbrev pub Holds : {X : Type 0} → ByName X → (List ℕ → Option X) → Type 0
Holds table f = (name : List ℕ) → at_small table name ≡ f name
