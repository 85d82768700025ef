use Rattle.std.proofs.Common.{◌≡◌, ◌≤◌, take}
use Rattle.std.specs.Prelude.{count_by}
use Rattle.bt_style.specs.declared.style.Command.{Command}
use Rattle.bt_run.specs.ReadCommand.{is_definition}
use Rattle.bt_run.proofs.declarations.definition_count.Given as goal

abbrev pub invariant-commands : goal.invariant-commands
invariant-commands l = record {
  count : l.count ≡ count_by (λ (c : Command). is_definition c.action) (take l.command-index l.commands);
  bounded : l.count ≤ l.command-index;
}
