use Rattle.std.proofs.Common.{◌≡◌, ◌++◌, drop, map, filter}
use Rattle.bt_log.specs.declared.message.Message.{Message}
use Rattle.bt_run.specs.ReadCommand.{is_about}
use Rattle.bt_run.specs.inner.Cases.{in_its_file, database_told}
use Rattle.bt_run.proofs.database_messages.tell_database.Given as goal

abbrev pub invariant-messages : goal.invariant-messages
invariant-messages l =
    l.log ++ map (in_its_file l.file) (filter (λ (m : Message). is_about l.number m.place) (drop l.message-index l.messages))
    ≡ l.fn.log ++ database_told l.number l.file l.messages
