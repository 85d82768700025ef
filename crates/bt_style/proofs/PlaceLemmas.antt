-- Each built-in function stands at its place in the table.
use Rattle.std.proofs.Common.{◌≡◌, refl, Some}
use Rattle.std.specs.Prelude.{slice_get}
use Rattle.bt_style.specs.declared.builtin.Builtin.{Builtin}
use Rattle.bt_style.specs.declared.builtin.Builtin.TheVariants as builtins
use Rattle.bt_style.specs.Builtins.{table, place_of}

pub stands_in_its_place : (b : Builtin) → slice_get table (place_of b) ≡ Some b
unfolding table
stands_in_its_place builtins.Greater = refl
stands_in_its_place builtins.Less = refl
stands_in_its_place builtins.Equals = refl
stands_in_its_place builtins.Plus = refl
stands_in_its_place builtins.Minus = refl
stands_in_its_place builtins.Join = refl
stands_in_its_place builtins.Assign = refl
stands_in_its_place builtins.AddPeriod = refl
stands_in_its_place builtins.CallType = refl
stands_in_its_place builtins.ChangeCase = refl
stands_in_its_place builtins.ChrToInt = refl
stands_in_its_place builtins.Cite = refl
stands_in_its_place builtins.Duplicate = refl
stands_in_its_place builtins.Empty = refl
stands_in_its_place builtins.FormatName = refl
stands_in_its_place builtins.If = refl
stands_in_its_place builtins.IntToChr = refl
stands_in_its_place builtins.IntToStr = refl
stands_in_its_place builtins.Missing = refl
stands_in_its_place builtins.Newline = refl
stands_in_its_place builtins.NumNames = refl
stands_in_its_place builtins.Pop = refl
stands_in_its_place builtins.Preamble = refl
stands_in_its_place builtins.Purify = refl
stands_in_its_place builtins.Quote = refl
stands_in_its_place builtins.Skip = refl
stands_in_its_place builtins.Stack = refl
stands_in_its_place builtins.Substring = refl
stands_in_its_place builtins.Swap = refl
stands_in_its_place builtins.TextLength = refl
stands_in_its_place builtins.TextPrefix = refl
stands_in_its_place builtins.Top = refl
stands_in_its_place builtins.Type = refl
stands_in_its_place builtins.Warning = refl
stands_in_its_place builtins.While = refl
stands_in_its_place builtins.Width = refl
stands_in_its_place builtins.Write = refl
