-- What names stand for.
use Rattle.std.specs.Prelude.{ℕ, suc, Bool, if◌then◌else◌, List, [], ◌∷◌, map, Option, Some, None, is_some, bytes_eq}
use Rattle.std.specs.List.{find}
use Rattle.std.specs.Option.{option_map}
use Rattle.bt_style.specs.declared.builtin.Builtin.{Builtin}
use Rattle.bt_style.specs.declared.style.Target.{Target}
use Rattle.bt_style.specs.declared.style.Target.TheVariants as targets
use Rattle.bt_style.specs.Builtins.{name_of, table}
use Rattle.bt_style.specs.Program.{Program}

-- the built-in function of a name
unfoldable pub builtin_named : List ℕ → Option Builtin
builtin_named name = find (λ b. bytes_eq (name_of b) name) table

-- the place of a name in a list, from 0
abbrev pub place_in : List (List ℕ) → List ℕ → Option ℕ
place_in [] name = None
place_in (first ∷ names) name = if bytes_eq first name then Some 0 else option_map (λ n. suc n) (place_in names name)

-- the first of some values that is there
abbrev pub first_some : {A : Type 0} → List (Option A) → Option A
first_some [] = None
first_some (Some x ∷ rest) = Some x
first_some (None ∷ rest) = first_some rest

-- What a name in small letters stands for, list by list. Fields, variables, functions and built-in functions share one
-- set of names.
abbrev pub meanings : Program → List ℕ → List (Option Target)
meanings p name =
    option_map targets.Builtin (builtin_named name) ∷
    option_map targets.Field (place_in p.fields name) ∷
    option_map targets.EntryNumber (place_in p.entry_numbers name) ∷
    option_map targets.EntryText (place_in p.entry_texts name) ∷
    option_map targets.GlobalNumber (place_in p.global_numbers name) ∷
    option_map targets.GlobalText (place_in p.global_texts name) ∷
    option_map targets.Function (place_in (map (λ f. f.name) p.functions) name) ∷ []

unfoldable pub target_named : Program → List ℕ → Option Target
target_named p name = first_some (meanings p name)

abbrev pub is_taken : Program → List ℕ → Bool
is_taken p name = is_some (target_named p name)

-- Macros have a set of names of their own.
unfoldable pub macro_named : Program → List ℕ → Option ℕ
macro_named p name = place_in (map (λ m. m.name) p.macros) name

abbrev pub is_macro : Program → List ℕ → Bool
is_macro p name = is_some (macro_named p name)
