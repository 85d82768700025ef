-- What a style is: its names, its macros, its functions with their bodies as trees, and its commands.
use Rattle.std.specs.Prelude.{ℕ, List, map}
use Rattle.bt_style.specs.declared.style.Function.{Function}
use Rattle.bt_style.specs.declared.style.Macro.{Macro}
use Rattle.bt_style.specs.declared.style.Command.{Command}
use Rattle.bt_style.specs.declared.style.Style.{Style}
use Rattle.bt_style.specs.Tree.{Body, ops_body}

-- a function
pub record Definition : Type 0 where
  pub name : List ℕ
  pub body : Body

-- a style, without regard to how it is stored
pub record Program : Type 0 where
  pub fields : List (List ℕ)
  pub entry_numbers : List (List ℕ)
  pub entry_texts : List (List ℕ)
  pub global_numbers : List (List ℕ)
  pub global_texts : List (List ℕ)
  pub macros : List Macro
  pub functions : List Definition
  pub commands : List Command

abbrev pub definition_of : Function → Definition
definition_of f = record { name = f.name; body = ops_body f.body.items }

abbrev pub definitions_of : List Function → List Definition
definitions_of fs = map definition_of fs

-- the code's `Style` as definitions see it
abbrev pub program_of : Style → Program
program_of s = record {
  fields = s.fields;
  entry_numbers = s.entry_numbers;
  entry_texts = s.entry_texts;
  global_numbers = s.global_numbers;
  global_texts = s.global_texts;
  macros = s.macros;
  functions = definitions_of s.functions.items;
  commands = s.commands;
}
