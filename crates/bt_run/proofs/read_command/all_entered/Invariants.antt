use Rattle.std.proofs.Common.{◌≡◌, map, take}
use Rattle.bt_style.specs.Program.{program_of}
use Rattle.bt_run.specs.ReadCommand.{with_blank_variables}
use Rattle.bt_run.proofs.read_command.all_entered.Given as goal

abbrev pub invariant-entries : goal.invariant-entries
invariant-entries l = l.all ≡ map (with_blank_variables (program_of l.style)) (take l.entry-index l.entries)
