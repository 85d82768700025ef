-- What a call of a built-in function costs.
use Rattle.std.specs.Prelude.{ℕ, List, codes}
use Rattle.bt_style.specs.declared.builtin.Builtin.{Builtin}
use Rattle.bt_style.specs.declared.builtin.Builtin.TheVariants as builtins

abbrev pub tick : List ℕ
tick = codes "1 of a step's 1,000,000 ticks"

abbrev pub strings : List ℕ
strings = codes "1 of a step's 1,000,000 ticks; its time grows with its strings"

abbrev pub body : List ℕ
body = codes "1 of a step's 1,000,000 ticks, and those of the function that it runs"

abbrev pub bodies : List ℕ
bodies = codes "1 of a step's 1,000,000 ticks, and those of both functions each time they run"

abbrev pub cost_of : Builtin → List ℕ
cost_of builtins.Greater = tick
cost_of builtins.Less = tick
cost_of builtins.Equals = strings
cost_of builtins.Plus = tick
cost_of builtins.Minus = tick
cost_of builtins.Join = strings
cost_of builtins.Assign = tick
cost_of builtins.AddPeriod = strings
cost_of builtins.CallType = body
cost_of builtins.ChangeCase = strings
cost_of builtins.ChrToInt = tick
cost_of builtins.Cite = tick
cost_of builtins.Duplicate = tick
cost_of builtins.Empty = tick
cost_of builtins.FormatName = strings
cost_of builtins.If = body
cost_of builtins.IntToChr = tick
cost_of builtins.IntToStr = tick
cost_of builtins.Missing = tick
cost_of builtins.Newline = strings
cost_of builtins.NumNames = strings
cost_of builtins.Pop = tick
cost_of builtins.Preamble = tick
cost_of builtins.Purify = strings
cost_of builtins.Quote = tick
cost_of builtins.Skip = tick
cost_of builtins.Stack = strings
cost_of builtins.Substring = tick
cost_of builtins.Swap = tick
cost_of builtins.TextLength = strings
cost_of builtins.TextPrefix = strings
cost_of builtins.Top = strings
cost_of builtins.Type = tick
cost_of builtins.Warning = strings
cost_of builtins.While = bodies
cost_of builtins.Width = strings
cost_of builtins.Write = strings
