-- What the text of a style was read as.
use Rattle.std.specs.Prelude.{Result, Ok, Err}
use Rattle.bt_style.specs.declared.fault.StyleFault.{StyleFault}
use Rattle.bt_style.specs.declared.style.Style.{Style}
use Rattle.bt_style.specs.Program.{Program, program_of}

-- a style that was read, or the fault that was met, in the words of `style_of`
abbrev pub read_as : Result Style StyleFault → Result Program StyleFault
read_as (Ok style) = Ok (program_of style)
read_as (Err fault) = Err fault
