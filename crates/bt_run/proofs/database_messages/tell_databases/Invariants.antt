use Rattle.std.proofs.Common.{◌≡◌, ◌+◌, ◌++◌, drop}
use Rattle.bt_run.specs.ReadCommand.{databases_told}
use Rattle.bt_run.proofs.database_messages.tell_databases.Given as goal

abbrev pub invariant-databases : goal.invariant-databases
invariant-databases l =
    l.log ++ databases_told (l.place + 1) (drop l.place l.databases) l.messages ≡ l.fn.log ++ databases_told 1 l.databases l.messages
