-- The built-in functions: their table, with their names and their places in it.
use Rattle.std.specs.Prelude.{ℕ, List, [], ◌∷◌, bytes_eq, codes}
use Rattle.std.specs.List.{position_or_len}
use Rattle.bt_style.specs.declared.builtin.Builtin.{Builtin}
use Rattle.bt_style.specs.declared.builtin.Builtin.TheVariants as builtins

-- the names
abbrev pub name_of : Builtin → List ℕ
name_of builtins.Greater = codes ">"
name_of builtins.Less = codes "<"
name_of builtins.Equals = codes "="
name_of builtins.Plus = codes "+"
name_of builtins.Minus = codes "-"
name_of builtins.Join = codes "*"
name_of builtins.Assign = codes ":="
name_of builtins.AddPeriod = codes "add.period$"
name_of builtins.CallType = codes "call.type$"
name_of builtins.ChangeCase = codes "change.case$"
name_of builtins.ChrToInt = codes "chr.to.int$"
name_of builtins.Cite = codes "cite$"
name_of builtins.Duplicate = codes "duplicate$"
name_of builtins.Empty = codes "empty$"
name_of builtins.FormatName = codes "format.name$"
name_of builtins.If = codes "if$"
name_of builtins.IntToChr = codes "int.to.chr$"
name_of builtins.IntToStr = codes "int.to.str$"
name_of builtins.Missing = codes "missing$"
name_of builtins.Newline = codes "newline$"
name_of builtins.NumNames = codes "num.names$"
name_of builtins.Pop = codes "pop$"
name_of builtins.Preamble = codes "preamble$"
name_of builtins.Purify = codes "purify$"
name_of builtins.Quote = codes "quote$"
name_of builtins.Skip = codes "skip$"
name_of builtins.Stack = codes "stack$"
name_of builtins.Substring = codes "substring$"
name_of builtins.Swap = codes "swap$"
name_of builtins.TextLength = codes "text.length$"
name_of builtins.TextPrefix = codes "text.prefix$"
name_of builtins.Top = codes "top$"
name_of builtins.Type = codes "type$"
name_of builtins.Warning = codes "warning$"
name_of builtins.While = codes "while$"
name_of builtins.Width = codes "width$"
name_of builtins.Write = codes "write$"

-- the table, in its order
unfoldable pub table : List Builtin
table =
    builtins.Greater ∷ builtins.Less ∷ builtins.Equals ∷ builtins.Plus ∷ builtins.Minus ∷ builtins.Join ∷
    builtins.Assign ∷ builtins.AddPeriod ∷ builtins.CallType ∷ builtins.ChangeCase ∷ builtins.ChrToInt ∷
    builtins.Cite ∷ builtins.Duplicate ∷ builtins.Empty ∷ builtins.FormatName ∷ builtins.If ∷
    builtins.IntToChr ∷ builtins.IntToStr ∷ builtins.Missing ∷ builtins.Newline ∷ builtins.NumNames ∷
    builtins.Pop ∷ builtins.Preamble ∷ builtins.Purify ∷ builtins.Quote ∷ builtins.Skip ∷ builtins.Stack ∷
    builtins.Substring ∷ builtins.Swap ∷ builtins.TextLength ∷ builtins.TextPrefix ∷ builtins.Top ∷
    builtins.Type ∷ builtins.Warning ∷ builtins.While ∷ builtins.Width ∷ builtins.Write ∷ []

-- a function's place in the table, from 0
abbrev pub place_of : Builtin → ℕ
place_of b = position_or_len (λ other. bytes_eq (name_of other) (name_of b)) table
