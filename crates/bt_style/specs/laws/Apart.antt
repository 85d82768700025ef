-- Each name of a style stands for what was declared by it.
use Rattle.std.specs.Prelude.{◌≡◌, ℕ, List, Option, Some, Ok, slice_get}
use Rattle.bt_style.specs.declared.style.Target.TheVariants as targets
use Rattle.bt_style.specs.Program.{Program}
use Rattle.bt_style.specs.Names.{target_named, macro_named}
use Rattle.bt_style.specs.inner.Cases.{function_names, macro_names}
use Rattle.bt_style.specs.Reader.{style_of}

-- each of some names is found by a look-up, as what its number makes of it
abbrev pub AreFound : {T : Type 0} → (List ℕ → Option T) → (ℕ → T) → List (List ℕ) → Type 0
AreFound look_up make names = (n : ℕ) (name : List ℕ) → slice_get names n ≡ Some name → look_up name ≡ Some (make n)

-- Each name stands for what was declared by it. So no two fields, variables and functions have one name, and none has
-- that of a built-in function; no two macros have one name.
pub record NamesAreFound (p : Program) : Type 0 where
  pub fields : AreFound (target_named p) targets.Field p.fields
  pub entry_numbers : AreFound (target_named p) targets.EntryNumber p.entry_numbers
  pub entry_texts : AreFound (target_named p) targets.EntryText p.entry_texts
  pub global_numbers : AreFound (target_named p) targets.GlobalNumber p.global_numbers
  pub global_texts : AreFound (target_named p) targets.GlobalText p.global_texts
  pub functions : AreFound (target_named p) targets.Function (function_names p)
  pub macros : AreFound (macro_named p) (λ n. n) (macro_names p)

abbrev pub EachNameIsFound : Type 0
EachNameIsFound = (text : List ℕ) (p : Program) → style_of text ≡ Ok p → NamesAreFound p
