-- Names that stand for something before a style declares anything.
use Rattle.std.specs.Prelude.{ℕ, ◌||◌, Bool, List, [], ◌∷◌, codes, Option}
use Rattle.std.specs.List.{find}
use Rattle.bt_text.specs.CaseFolding.{is_same_folded}
use Rattle.bt_style.specs.declared.builtin.Builtin.{Builtin}
use Rattle.bt_style.specs.declared.builtin.Builtin.TheVariants as builtins
use Rattle.bt_style.specs.Builtins.{name_of}

-- all built-in functions, in the order of their table
unfoldable pub all_builtins : List Builtin
all_builtins =
    builtins.Greater ∷ builtins.Less ∷ builtins.Equals ∷ builtins.Plus ∷ builtins.Minus ∷
    builtins.Join ∷ builtins.Assign ∷ builtins.AddPeriod ∷ builtins.CallType ∷ builtins.ChangeCase ∷
    builtins.ChrToInt ∷ builtins.Cite ∷ builtins.Duplicate ∷ builtins.Empty ∷ builtins.FormatName ∷
    builtins.If ∷ builtins.IntToChr ∷ builtins.IntToStr ∷ builtins.Missing ∷ builtins.Newline ∷
    builtins.NumNames ∷ builtins.Pop ∷ builtins.Preamble ∷ builtins.Purify ∷ builtins.Quote ∷
    builtins.Skip ∷ builtins.Stack ∷ builtins.Substring ∷ builtins.Swap ∷ builtins.TextLength ∷
    builtins.TextPrefix ∷ builtins.Top ∷ builtins.Type ∷ builtins.Warning ∷ builtins.While ∷
    builtins.Width ∷ builtins.Write ∷ []

-- the built-in function of a name, in any case
abbrev pub builtin_named : List ℕ → Option Builtin
builtin_named name = find (λ builtin. is_same_folded name (name_of builtin)) all_builtins

-- whether BibTeX declares a name itself
abbrev pub is_preset : List ℕ → Bool
is_preset name =
    is_same_folded name (codes "crossref") || is_same_folded name (codes "sort.key$") ||
    is_same_folded name (codes "entry.max$") || is_same_folded name (codes "global.max$")
